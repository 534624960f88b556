-- The request of words, as a function.
use Rattle.std.specs.Prelude.{ℕ, List, [], ◌∷◌, Option, None, option_and_then}
use Rattle.drm_words.specs.declared.request.Request.{Request}
use Rattle.cli_syntax.specs.Arguing.{read}
use Rattle.drm_words.specs.Asking.{request_of}

abbrev pub line_of : List (List ℕ) → Option Request
line_of [] = None
line_of (command ∷ behind) = option_and_then (λ sorted. request_of command sorted.texts sorted.options) (read behind)
