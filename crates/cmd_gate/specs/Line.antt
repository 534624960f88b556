-- The line of a gateway's run.
use Rattle.std.specs.Prelude.{ℕ, ◌==◌, ◌&&◌, Bool, List, [], ◌∷◌, codes, decimal}
use Rattle.std.specs.List.{concat}
use Rattle.drm_gate.specs.declared.tally.Tally.{Tally}

abbrev pub gate_line : Tally → List ℕ
gate_line t = concat (
    codes "gate given " ∷ decimal t.given ∷ codes " missing " ∷ decimal t.missing ∷ codes " bad " ∷ decimal t.bad ∷ codes " large " ∷ decimal t.large
    ∷ codes " sent " ∷ decimal t.sent ∷ codes "\n" ∷ []
    )

-- each packet was sent: none was missing, bad or large
abbrev pub is_clean : Tally → Bool
is_clean t = (t.missing == 0) && (t.bad == 0) && (t.large == 0)
