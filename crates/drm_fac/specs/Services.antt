-- The numbers of services in a FAC (ES 201 980, "Fast Access Channel").
use Rattle.std.specs.Prelude.{ℕ, ◌+◌, ◌*◌, ◌/◌, ◌%◌, ◌==◌, ◌||◌, nat_lt, if◌then◌else◌, Option, None, Some}

-- The numbers of audio and of data services of a code: two bits each, but that four audio services have the code 0
-- and four data services 15. The codes 11 and 14 are reserved.
abbrev pub counts_of : ℕ → Option (ℕ × ℕ)
counts_of code =
    if code == 0 then Some (4, 0) else (if code == 15 then Some (0, 4) else (if code == 11 || code == 14 then None else Some (code / 4, code % 4)))

-- The code of so many audio and data services, of which there are one to four.
abbrev pub code_of : ℕ → ℕ → Option ℕ
code_of audio data_count =
    if audio + data_count == 0 || nat_lt 4 (audio + data_count) then None
    else (if audio == 4 then Some 0 else (if data_count == 4 then Some 15 else Some (4 * audio + data_count)))
