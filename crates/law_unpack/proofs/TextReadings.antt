-- A joiner of messages gives the same of two readings that differ by gaps at their ends.
use Rattle.std.proofs.Common.{◌≡◌, ◌∙◌, ℕ, ◌+◌, List, [], ◌∷◌, ◌++◌, Option, None, Some, refl, sym, ap, subst, arith}
use Rattle.std.specs.List.{AllByRecursion}
use Rattle.drm_text.specs.Joining.{TextState, made, after}
use Rattle.law_text.specs.Readings.{PieceReading}
use Rattle.law_text.specs.Runs.{JoinerRuns, with_message, messages_in}
use Rattle.law_unpack.specs.Texts.{piece_count}

-- a run over a reading that gives the messages of these texts
pub record Gives (s : TextState) (reading : PieceReading) (texts : List (Option (List ℕ))) : Type 0 where
  pub answers : List (Option (List ℕ))
  pub left : TextState
  pub runs : JoinerRuns s reading answers left
  pub same : messages_in texts ≡ messages_in answers

-- Whatever a run over the first gives, one over the second gives. They have as many pieces.
pub record GiveTheSame (s : TextState) (xs ys : PieceReading) : Type 0 where
  pub gives : (texts : List (Option (List ℕ))) (left : TextState) → JoinerRuns s xs texts left → Gives s ys texts
  pub many : piece_count xs ≡ piece_count ys

abbrev pub AreGaps : PieceReading → Type 0
AreGaps reading = AllByRecursion (λ x. x ≡ None) reading

give_front : (front : PieceReading) (s : TextState) (xs ys : PieceReading) → ((t : TextState) → GiveTheSame t xs ys) → (texts : List (Option (List ℕ))) (left : TextState)
    → JoinerRuns s (front ++ xs) texts left → Gives s (front ++ ys) texts
give_front [] s xs ys h texts left run = (h s).gives texts left run
give_front (None ∷ front) s xs ys h [] left run = absurd run
give_front (None ∷ front) s xs ys h (text ∷ texts) left run =
    let more = give_front front made xs ys h texts left run.1 in
    record { answers = text ∷ more.answers; left = more.left; runs = (run.0, more.runs); same = ap (with_message text) more.same }
give_front (Some piece ∷ front) s xs ys h [] left run = absurd run
give_front (Some piece ∷ front) s xs ys h (text ∷ texts) left (read, reads, gives, rest) =
    let more = give_front front (after s piece read) xs ys h texts left rest in
    record { answers = text ∷ more.answers; left = more.left; runs = (read, reads, gives, more.runs); same = ap (with_message text) more.same }

pub piece_count-append : (xs ys : PieceReading) → piece_count (xs ++ ys) ≡ piece_count xs + piece_count ys
piece_count-append [] ys = omega arith
piece_count-append (None ∷ xs) ys = piece_count-append xs ys
piece_count-append (Some piece ∷ xs) ys = omega (arith, piece_count-append xs ys)

pub same_front : (front : PieceReading) (s : TextState) (xs ys : PieceReading) → ((t : TextState) → GiveTheSame t xs ys) → GiveTheSame s (front ++ xs) (front ++ ys)
same_front front s xs ys h = record {
  gives = give_front front s xs ys h;
  many = piece_count-append front xs ∙ (ap (λ n. piece_count front + n) (h s).many ∙ sym (piece_count-append front ys));
}

-- a gap gives nothing, and a new joiner is new behind it
pub gap_off : (xs ys : PieceReading) → GiveTheSame made xs ys → GiveTheSame made (None ∷ xs) ys
gap_off xs ys h = record { gives = gives; many = h.many }
  where
    gives : (texts : List (Option (List ℕ))) (left : TextState) → JoinerRuns made (None ∷ xs) texts left → Gives made ys texts
    gives [] left run = absurd run
    gives (text ∷ texts) left run =
        let more = h.gives texts left run.1 in
        record { answers = more.answers; left = more.left; runs = more.runs; same = ap (λ o. with_message o (messages_in texts)) run.0 ∙ more.same }

gap_before : (s : TextState) (ys : PieceReading) (texts : List (Option (List ℕ))) → Gives made ys texts → Gives s (None ∷ ys) texts
gap_before s ys texts more = record { answers = None ∷ more.answers; left = more.left; runs = (refl, more.runs); same = more.same }

pub gap_on : (xs ys : PieceReading) → GiveTheSame made xs ys → GiveTheSame made xs (None ∷ ys)
gap_on xs ys h = record { gives = λ texts left run. gap_before made ys texts (h.gives texts left run); many = h.many }

-- only gaps

no_pieces : (reading : PieceReading) → AreGaps reading → piece_count reading ≡ 0
no_pieces [] are = refl
no_pieces (None ∷ reading) are = no_pieces reading are.1
no_pieces (Some piece ∷ reading) are = absurd (let none : Some piece ≡ None = are.0 in cc)

quiet : (s : TextState) (xs : PieceReading) (texts : List (Option (List ℕ))) (left : TextState) → AreGaps xs → JoinerRuns s xs texts left → messages_in texts ≡ []
quiet s [] texts left are run = ap messages_in run.0
quiet s (None ∷ xs) [] left are run = absurd run
quiet s (None ∷ xs) (text ∷ texts) left are run = ap (λ o. with_message o (messages_in texts)) run.0 ∙ quiet made xs texts left are.1 run.1
quiet s (Some piece ∷ xs) texts left are run = absurd (let none : Some piece ≡ None = are.0 in cc)

pub gaps_off : (s : TextState) (xs : PieceReading) → AreGaps xs → GiveTheSame s xs []
gaps_off s xs are = record {
  gives = λ texts left run. record { answers = []; left = s; runs = (refl, refl); same = quiet s xs texts left are run };
  many = no_pieces xs are;
}

quiet_run : (s : TextState) (ys : PieceReading) → AreGaps ys → Gives s ys []
quiet_run s [] are = record { answers = []; left = s; runs = (refl, refl); same = refl }
quiet_run s (None ∷ ys) are = gap_before s ys [] (quiet_run made ys are.1)
quiet_run s (Some piece ∷ ys) are = absurd (let none : Some piece ≡ None = are.0 in cc)

pub gaps_on : (s : TextState) (ys : PieceReading) → AreGaps ys → GiveTheSame s [] ys
gaps_on s ys are = record {
  gives = λ texts left run. let none : texts ≡ [] = run.0 in subst (Gives s ys) (sym none) (quiet_run s ys are);
  many = sym (no_pieces ys are);
}
