-- What a joiner has begun stands in the reading.
use Rattle.std.proofs.Common.{◌≡◌, ℕ, suc, ◌+◌, ◌≤◌, ◌==◌, nat_le, inl, inr, Bool, true, false, ◌&&◌, not, if◌then◌else◌, List, [], ◌∷◌, ◌++◌, length, Option, Some, None, is_some, refl, sym, ap, subst, ◌∙◌, append_assoc, append-nil, arith, length-append}
use Rattle.std.proofs.lemmas.Bool.{cases_Bool, ne_eqb, and_parts, eqb-true, leb-true}
use Rattle.drm_text.specs.Segment.{Segment, most_body, IsSegment}
use Rattle.drm_text.specs.Message.{start, most_message}
use Rattle.drm_text.specs.Joining.{OpenMessage, TextState, PieceRole, Starts, Strays, Grows, Fills, made, is_start, is_complete, gather, gather_on, segment_after, same_flag, joined, bytes_with, going_on, ReadsIn, begun_by, whole_with, GivesMessage}
use Rattle.law_text.specs.Readings.{PieceReading, without_gaps, bytes_of, HasNoGaps, MessageGoesOn, AreBegun, EndsMessage}

-- what was read ends in the segments of the message that was begun
pub record StandsBegun (behind : PieceReading) (u : OpenMessage) : Type 0 where
  pub front : PieceReading
  pub pieces : PieceReading
  pub count : ℕ
  pub all : behind ≡ front ++ pieces
  pub number : u.number ≡ suc count
  pub begun : AreBegun u.toggle (suc count) u.bytes pieces

abbrev pub IsBegunBy : PieceReading → Option OpenMessage → Type 0
IsBegunBy behind None = Unit {0}
IsBegunBy behind (Some u) = StandsBegun behind u

-- and behind it stand the start and the pieces of the segment so far, if there is one
abbrev pub InSegment : PieceReading → PieceReading → Option (List ℕ) → Type 0
InSegment behind reading None = reading ≡ behind
InSegment behind reading (Some bytes) = (pieces : List (List ℕ)) × (reading ≡ behind ++ Some start ∷ without_gaps pieces) × (bytes ≡ bytes_of pieces)

pub record Holds (reading : PieceReading) (s : TextState) : Type 0 where
  pub behind : PieceReading
  pub begun : IsBegunBy behind s.begun
  pub segment : InSegment behind reading s.segment

pub without_gaps-push : (ps : List (List ℕ)) (p : List ℕ) → without_gaps (ps ++ p ∷ []) ≡ without_gaps ps ++ Some p ∷ []
without_gaps-push [] p = refl
without_gaps-push (q ∷ ps) p = ap (λ l. Some q ∷ l) (without_gaps-push ps p)

pub bytes_of-push : (ps : List (List ℕ)) (p : List ℕ) → bytes_of (ps ++ p ∷ []) ≡ bytes_of ps ++ p
bytes_of-push [] p = append-nil p
bytes_of-push (q ∷ ps) p = ap (λ l. q ++ l) (bytes_of-push ps p) ∙ sym (append_assoc q (bytes_of ps) p)

pub clash_some : {A X : Type 0} (o : Option X) (x : X) → o ≡ None → o ≡ Some x → A
clash_some o x none some = let is : None ≡ Some x = sym none ∙ some in absurd cc

pub same_some : {X : Type 0} (x y : X) → Some x ≡ Some y → x ≡ y
same_some x y is = cc

same_flags : (a b : Bool) → same_flag a b ≡ true → a ≡ b
same_flags true true is = refl
same_flags true false is = absurd cc
same_flags false true is = absurd cc
same_flags false false is = refl

-- a segment that goes on stands behind what it goes on with
record Found (behind here : PieceReading) (s : Segment) (text : List ℕ) : Type 0 where
  pub front : PieceReading
  pub pieces : PieceReading
  pub count : ℕ
  pub all : behind ++ here ≡ front ++ pieces
  pub goes : MessageGoesOn (AreBegun s.toggle count) s.toggle count s text pieces
  pub few : length text ≤ most_message

found_first : (behind here : PieceReading) (s : Segment) (text : List ℕ) → HasNoGaps s here → s.first ≡ true → (if s.number == 0 then Some s.body else None) ≡ Some text → Found behind here s text
found_first behind here s text is_whole first is =
    elim (cases_Bool (s.number == 0)) [
      | inl zero_is ↦
          let body : s.body ≡ text = same_some s.body text (sym (ap (λ t. if t then Some s.body else None) zero_is) ∙ is) in
          record {
            front = behind;
            pieces = here;
            count = 0;
            all = refl;
            goes = record {
              before = [];
              ahead = [];
              here = here;
              begun = (refl, refl);
              toggle_is = refl;
              number_is = eqb-true s.number 0 zero_is;
              first_is = first;
              text_is = sym body;
              whole = is_whole;
              all = refl;
            };
            few = omega (arith, ap length body, is_whole.segment.1.few);
          }
      | inr other ↦ clash_some (if s.number == 0 then Some s.body else None) text (ap (λ t. if t then Some s.body else None) other) is
    ]

found_next : (behind here : PieceReading) (s : Segment) (b : Option OpenMessage) (text : List ℕ) → IsBegunBy behind b → HasNoGaps s here → s.first ≡ false → joined b s ≡ Some text → Found behind here s text
found_next behind here s None text stands is_whole first is = clash_some (joined None s) text refl is
found_next behind here s (Some u) text stands is_whole first is =
    let test : Bool = same_flag s.toggle u.toggle && ((s.number == u.number) && nat_le (length u.bytes + length s.body) most_message) in
    elim (cases_Bool test) [
      | inl fits ↦
          let p = and_parts (same_flag s.toggle u.toggle) ((s.number == u.number) && nat_le (length u.bytes + length s.body) most_message) fits in
          let q = and_parts (s.number == u.number) (nat_le (length u.bytes + length s.body) most_message) p.1 in
          let toggle : s.toggle ≡ u.toggle = same_flags s.toggle u.toggle p.0 in
          let body : u.bytes ++ s.body ≡ text = same_some (u.bytes ++ s.body) text (sym (ap (λ t. if t then Some (u.bytes ++ s.body) else None) fits) ∙ is) in
          let P : Bool → Type 0 = λ t. AreBegun t (suc stands.count) u.bytes stands.pieces in
          record {
            front = stands.front;
            pieces = stands.pieces ++ here;
            count = suc stands.count;
            all = ap (λ l. l ++ here) stands.all ∙ append_assoc stands.front stands.pieces here;
            goes = record {
              before = u.bytes;
              ahead = stands.pieces;
              here = here;
              begun = subst P (sym toggle) stands.begun;
              toggle_is = refl;
              number_is = eqb-true s.number u.number q.0 ∙ stands.number;
              first_is = first ∙ sym (ne_eqb (suc stands.count) 0 (λ same. absurd (omega (arith, same))));
              text_is = sym body;
              whole = is_whole;
              all = refl;
            };
            few = omega (arith, sym (ap length body), length-append u.bytes s.body, leb-true _ _ q.1);
          }
      | inr other ↦ clash_some (joined (Some u) s) text (ap (λ t. if t then Some (u.bytes ++ s.body) else None) other) is
    ]

found : (behind here : PieceReading) (s : Segment) (b : Option OpenMessage) (text : List ℕ) → IsBegunBy behind b → HasNoGaps s here → bytes_with b s ≡ Some text → Found behind here s text
found behind here s b text stands is_whole is =
    elim (cases_Bool s.first) [
      | inl first ↦ found_first behind here s text is_whole first (sym (ap (λ f. if f then (if s.number == 0 then Some s.body else None) else joined b s) first) ∙ is)
      | inr later ↦ found_next behind here s b text stands is_whole later (sym (ap (λ f. if f then (if s.number == 0 then Some s.body else None) else joined b s) later) ∙ is)
    ]

-- the message that goes on after a segment stands there
stands_on : (reading behind here : PieceReading) (s : Segment) (b : Option OpenMessage) (o : Option (List ℕ)) → reading ≡ behind ++ here → IsBegunBy behind b → HasNoGaps s here → bytes_with b s ≡ o
    → IsBegunBy reading (going_on s o)
stands_on reading behind here s b None all stands is_whole is = tt
stands_on reading behind here s b (Some text) all stands is_whole is =
    let f = found behind here s b text stands is_whole is in
    let next : OpenMessage = record { toggle = s.toggle; number = s.number + 1; bytes = text } in
    let P : Option OpenMessage → Type 0 = λ x. IsBegunBy reading x in
    elim (cases_Bool (not s.last && (length s.body == most_body))) [
      | inl goes ↦
          let p = and_parts (not s.last) (length s.body == most_body) goes in
          let here_it_is : StandsBegun reading next = record {
            front = f.front;
            pieces = f.pieces;
            count = f.count;
            all = all ∙ f.all;
            number = omega (arith, f.goes.number_is);
            begun = (s, f.goes, not_true s.last p.0, eqb-true (length s.body) most_body p.1);
          } in
          subst P (sym (ap (λ t. if t then Some next else None) goes)) here_it_is
      | inr ends ↦ subst P (sym (ap (λ t. if t then Some next else None) ends)) tt
    ]
  where
    not_true : (b : Bool) → not b ≡ true → b ≡ false
    not_true true is = absurd cc
    not_true false is = refl

-- a message that is given ends there
given_ends : (reading behind here : PieceReading) (s : Segment) (b : Option OpenMessage) (o text : Option (List ℕ)) (message : List ℕ) → reading ≡ behind ++ here → IsBegunBy behind b → HasNoGaps s here → bytes_with b s ≡ o
    → s.last ≡ true → GivesMessage o text → text ≡ Some message → EndsMessage reading message
given_ends reading behind here s b None text message all stands is_whole is last gives some = clash_some text message gives some
given_ends reading behind here s b (Some bytes) None message all stands is_whole is last gives some = clash_some None message refl some
given_ends reading behind here s b (Some bytes) (Some given) message all stands is_whole is last gives some =
    let f = found behind here s b bytes stands is_whole is in
    let same : bytes ≡ message = sym gives.1 ∙ same_some given message some in
    let P : List ℕ → Type 0 = λ l. EndsMessage reading l in
    subst P same
    (record {
      front = f.front;
      pieces = f.pieces;
      all = all ∙ f.all;
      toggle = s.toggle;
      number = f.count;
      segment = s;
      goes = f.goes;
      last = last;
      few = f.few;
      utf8 = gives.0.0 refl;
    })

-- a piece more: what holds then, and that a message that is given ends there
pub record Stepped (reading : PieceReading) (b : Option OpenMessage) (piece : List ℕ) (g : PieceRole) (read : Option Segment) : Type 0 where
  pub holds : Holds (reading ++ Some piece ∷ []) (record { begun = begun_by b g read; segment = segment_after g })
  pub ends : (text : Option (List ℕ)) (message : List ℕ) → GivesMessage (whole_with b read) text → text ≡ Some message → EndsMessage (reading ++ Some piece ∷ []) message

abbrev StepsBy : PieceReading → Option OpenMessage → List ℕ → PieceRole → Type 0
StepsBy reading b piece g = (read : Option Segment) → ReadsIn g read → Stepped reading b piece g read

none_ends : (reading : PieceReading) (b : Option OpenMessage) (read : Option Segment) → read ≡ None → (text : Option (List ℕ)) (message : List ℕ) → GivesMessage (whole_with b read) text → text ≡ Some message → EndsMessage reading message
none_ends reading b read none text message gives some =
    let P : Option Segment → Type 0 = λ r. GivesMessage (whole_with b r) text in
    clash_some text message (subst P none gives) some

step_start : (reading behind : PieceReading) (b : Option OpenMessage) (segment : Option (List ℕ)) (piece : List ℕ) → IsBegunBy behind b → InSegment behind reading segment → piece ≡ start
    → StepsBy reading b piece (Starts (is_some segment))
step_start reading behind b None piece stands at is read none =
    let P : PieceReading → Type 0 = λ r. IsBegunBy r b in
    record {
      holds = record { behind = reading; begun = subst P (sym at) stands; segment = ([], ap (λ p. reading ++ Some p ∷ []) is, refl) };
      ends = none_ends (reading ++ Some piece ∷ []) b read none;
    }
step_start reading behind b (Some bytes) piece stands at is read none = record {
  holds = record { behind = reading; begun = tt; segment = ([], ap (λ p. reading ++ Some p ∷ []) is, refl) };
  ends = none_ends (reading ++ Some piece ∷ []) b read none;
}

step_stray : (reading : PieceReading) (b : Option OpenMessage) (piece : List ℕ) → StepsBy reading b piece Strays
step_stray reading b piece read none = record {
  holds = record { behind = reading ++ Some piece ∷ []; begun = tt; segment = refl };
  ends = none_ends (reading ++ Some piece ∷ []) b read none;
}

-- the reading with the piece, by what stands behind
with_piece : (reading behind : PieceReading) (pieces : List (List ℕ)) (piece : List ℕ) → reading ≡ behind ++ Some start ∷ without_gaps pieces
    → reading ++ Some piece ∷ [] ≡ behind ++ Some start ∷ without_gaps (pieces ++ piece ∷ [])
with_piece reading behind pieces piece is =
    ap (λ l. l ++ Some piece ∷ []) is
    ∙ (append_assoc behind (Some start ∷ without_gaps pieces) (Some piece ∷ []) ∙ ap (λ l. behind ++ Some start ∷ l) (sym (without_gaps-push pieces piece)))

step_grows : (reading behind : PieceReading) (b : Option OpenMessage) (bytes piece : List ℕ) → IsBegunBy behind b → InSegment behind reading (Some bytes) → StepsBy reading b piece (Grows (bytes ++ piece))
step_grows reading behind b bytes piece stands (pieces, at, are) read none = record {
  holds = record {
    behind = behind;
    begun = stands;
    segment = (pieces ++ piece ∷ [], with_piece reading behind pieces piece at, ap (λ l. l ++ piece) are ∙ sym (bytes_of-push pieces piece));
  };
  ends = none_ends (reading ++ Some piece ∷ []) b read none;
}

step_fills : (reading behind : PieceReading) (b : Option OpenMessage) (bytes piece : List ℕ) → IsBegunBy behind b → InSegment behind reading (Some bytes) → StepsBy reading b piece (Fills (bytes ++ piece))
step_fills reading behind b bytes piece stands (pieces, at, are) None reads = record {
  holds = record { behind = reading ++ Some piece ∷ []; begun = tt; segment = refl };
  ends = none_ends (reading ++ Some piece ∷ []) b None refl;
}
step_fills reading behind b bytes piece stands (pieces, at, are) (Some s) reads =
    let P : List ℕ → Type 0 = λ l. IsSegment s l in
    let here : PieceReading = Some start ∷ without_gaps (pieces ++ piece ∷ []) in
    let whole_here : HasNoGaps s here = record {
      pieces = pieces ++ piece ∷ [];
      all = refl;
      segment = subst P (ap (λ l. l ++ piece) are ∙ sym (bytes_of-push pieces piece)) reads;
    } in
    let all : reading ++ Some piece ∷ [] ≡ behind ++ here = with_piece reading behind pieces piece at in
    record {
      holds = record { behind = reading ++ Some piece ∷ []; begun = stands_on (reading ++ Some piece ∷ []) behind here s b (bytes_with b s) all stands whole_here refl; segment = refl };
      ends = λ text message gives some.
          let Q : Option (List ℕ) → Type 0 = λ w. GivesMessage w text in
          elim (cases_Bool s.last) [
            | inl last ↦
                given_ends (reading ++ Some piece ∷ []) behind here s b (bytes_with b s) text message all stands whole_here refl last
                (subst Q (ap (λ t. if t then bytes_with b s else None) last) gives) some
            | inr more ↦ clash_some text message (subst Q (ap (λ t. if t then bytes_with b s else None) more) gives) some
          ];
    }

byte_is : (n : ℕ) → (n == 255) ≡ true → n ≡ 255
byte_is n is = eqb-true n 255 is

pub is_the_start : (piece : List ℕ) → length piece ≡ 4 → is_start piece ≡ true → piece ≡ start
is_the_start [] four is = absurd cc
is_the_start (a ∷ []) four is = absurd cc
is_the_start (a ∷ b ∷ []) four is = absurd cc
is_the_start (a ∷ b ∷ c ∷ []) four is = absurd cc
is_the_start (a ∷ b ∷ c ∷ d ∷ []) four is =
    let p = and_parts (a == 255) ((b == 255) && ((c == 255) && (d == 255))) is in
    let q = and_parts (b == 255) ((c == 255) && (d == 255)) p.1 in
    let r = and_parts (c == 255) (d == 255) q.1 in
    ap (λ n. n ∷ b ∷ c ∷ d ∷ []) (byte_is a p.0)
    ∙ (ap (λ n. 255 ∷ n ∷ c ∷ d ∷ []) (byte_is b q.0) ∙ (ap (λ n. 255 ∷ 255 ∷ n ∷ d ∷ []) (byte_is c r.0) ∙ ap (λ n. 255 ∷ 255 ∷ 255 ∷ n ∷ []) (byte_is d r.1)))
is_the_start (a ∷ b ∷ c ∷ d ∷ e ∷ piece) four is = absurd cc

-- what a piece is that isn't the start
step_on : (reading behind : PieceReading) (b : Option OpenMessage) (segment : Option (List ℕ)) (piece : List ℕ) → IsBegunBy behind b → InSegment behind reading segment → StepsBy reading b piece (gather_on segment piece)
step_on reading behind b None piece stands at = step_stray reading b piece
step_on reading behind b (Some bytes) piece stands at =
    let P : PieceRole → Type 0 = λ g. StepsBy reading b piece g in
    elim (cases_Bool (is_complete (bytes ++ piece))) [
      | inl full ↦ subst P (sym (ap (λ t. if t then Fills (bytes ++ piece) else Grows (bytes ++ piece)) full)) (step_fills reading behind b bytes piece stands at)
      | inr more ↦ subst P (sym (ap (λ t. if t then Fills (bytes ++ piece) else Grows (bytes ++ piece)) more)) (step_grows reading behind b bytes piece stands at)
    ]

pub step : (reading : PieceReading) (s : TextState) (piece : List ℕ) (read : Option Segment) → length piece ≡ 4 → Holds reading s → ReadsIn (gather s.segment piece) read
    → Stepped reading s.begun piece (gather s.segment piece) read
step reading s piece read four h reads =
    let P : PieceRole → Type 0 = λ g. StepsBy reading s.begun piece g in
    let all : P (gather s.segment piece) =
    elim (cases_Bool (is_start piece)) [
      | inl is ↦
          subst P (sym (ap (λ t. if t then Starts (is_some s.segment) else gather_on s.segment piece) is))
          (step_start reading h.behind s.begun s.segment piece h.begun h.segment (is_the_start piece four is))
      | inr other ↦
          subst P (sym (ap (λ t. if t then Starts (is_some s.segment) else gather_on s.segment piece) other))
          (step_on reading h.behind s.begun s.segment piece h.begun h.segment)
    ] in
    all read reads

pub step_gap : (reading : PieceReading) → Holds (reading ++ None ∷ []) made
step_gap reading = record { behind = reading ++ None ∷ []; begun = tt; segment = refl }
