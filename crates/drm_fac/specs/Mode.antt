-- The robustness mode (ES 201 980): its code and its letter.
use Rattle.std.specs.Prelude.{ℕ, ◌==◌, List, codes, if◌then◌else◌, Option, None, Some}
use Rattle.std.specs.Str.{bytes_eq}
use Rattle.drm_fac.specs.declared.mode.Mode.{Mode}
use Rattle.drm_fac.specs.declared.mode.Mode.TheVariants.{A, B, C, D}

-- the code of a mode
abbrev pub mode_code : Mode → ℕ
mode_code A = 0
mode_code B = 1
mode_code C = 2
mode_code D = 3

-- the mode of a code
abbrev pub mode_of_code : ℕ → Option Mode
mode_of_code code =
    if code == 0 then Some A
    else if code == 1 then Some B
    else if code == 2 then Some C
    else if code == 3 then Some D
    else None

-- the letter of a mode
abbrev pub mode_letter : Mode → List ℕ
mode_letter A = codes "A"
mode_letter B = codes "B"
mode_letter C = codes "C"
mode_letter D = codes "D"

-- the mode of a letter
abbrev pub mode_of_letter : List ℕ → Option Mode
mode_of_letter word =
    if bytes_eq word (codes "A") then Some A
    else if bytes_eq word (codes "B") then Some B
    else if bytes_eq word (codes "C") then Some C
    else if bytes_eq word (codes "D") then Some D
    else None
