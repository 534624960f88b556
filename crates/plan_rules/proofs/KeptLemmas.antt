-- One more line, of which the rows find no fault, leaves the lines ones that a text can have.
use Rattle.std.proofs.Common.{◌≡◌, ℕ, ◌+◌, ◌≤◌, ◌<◌, ◌^◌, Bool, true, false, List, [], ◌∷◌, ◌++◌, Option, Some, None, Ok, length, filter, refl, sym, ap, ◌∙◌, arith}
use Rattle.std.specs.Prelude.{IfSome, ◌||◌, nat_le, if◌then◌else◌}
use Rattle.std.specs.Option.{option_to_list}
use Rattle.std.proofs.lemmas.Bool.Decides.{nat_tests}
use Rattle.std.proofs.lemmas.List.{length-append}
use Rattle.std.proofs.lemmas.List.Elements.{All-nil, All-cons, All-append, filter-append}
use Rattle.plan_grammar.specs.declared.line.Line.{Line}
use Rattle.plan_grammar.specs.declared.line.Line.TheVariants as lines
use Rattle.plan_rows.specs.declared.keyword.Keyword.{Keyword}
use Rattle.plan_rows.specs.declared.keyword.Keyword.TheVariants as keywords
use Rattle.plan_grammar.specs.Said.{keyword_said, LineInLines}
use Rattle.plan_rows.specs.Keywords.{same}
use Rattle.plan_rules.specs.declared.said.ParsedLine.{ParsedLine}
use Rattle.plan_rules.specs.declared.said.ConfigLines.{ConfigLines}
use Rattle.plan_rules.specs.declared.said.ParsedText.{ParsedText}
use Rattle.plan_rules.specs.ParsedLine.{count, put, put_into, add, begin}
use Rattle.plan_rules.specs.Rules.{is_entity, count_with, count_entities, version_in, is_incomplete, is_too_many, in_current, ends_incomplete}
use Rattle.plan_rules.specs.Steps.{check_rows, check_of}
use Rattle.plan_rules.specs.InLines.{AreFew, BlockInLines, EndedInLines, ReadInLines}
use Rattle.plan_rules.proofs.KeywordLemmas.{one, entity_is_one, entity_is_no_stream, entity_is_no_block}

abbrev InSaid : ParsedLine → Type 0
InSaid s = LineInLines s.says

one_more : (test : ParsedLine → Bool) (said : List ParsedLine) (s : ParsedLine) → length (filter test (said ++ s ∷ [])) ≡ length (filter test said) + one (test s)
one_more test said s =
    ap (λ (l : List ParsedLine). length l) (filter-append test said (s ∷ [])) ∙ length-append (filter test said) (filter test (s ∷ [])) ∙ ap (λ n. length (filter test said) + n) (by (test s))
  where
    by : (b : Bool) → length (if b then s ∷ [] else []) ≡ one b
    by true = refl
    by false = refl

record Room (l : Line) (said : List ParsedLine) : Type 0 where
  streams : count keywords.Stream said + one (same (keyword_said l) keywords.Stream) ≤ 4
  blocks : count keywords.Block said + one (same (keyword_said l) keywords.Block) ≤ 64
  entities : count_with (count_entities 0 said) (keyword_said l) ≤ 64

few_now : (n : ℕ) (said : List ParsedLine) → AreFew n said → count_entities n said ≤ 64
few_now n [] few = few
few_now n (s ∷ said) few = few_now (count_with n (keyword_said s.says)) said few.1

few_more : (n : ℕ) (said : List ParsedLine) (s : ParsedLine) → AreFew n said → count_with (count_entities n said) (keyword_said s.says) ≤ 64 → AreFew n (said ++ s ∷ [])
few_more n [] s few next = (few, next)
few_more n (x ∷ said) s few next = (few.0, few_more (count_with n (keyword_said x.says)) said s few.1 next)

too_many_entity : (k : Keyword) (said : List ParsedLine) → is_entity k ≡ true → is_too_many k said ≡ nat_le 64 (count_entities 0 said)
unfolding is_too_many
too_many_entity keywords.Stream said e = absurd cc
too_many_entity keywords.Block said e = absurd cc
too_many_entity keywords.Label said e = refl
too_many_entity keywords.Freq said e = refl
too_many_entity keywords.When said e = refl
too_many_entity keywords.App said e = refl
too_many_entity keywords.Audio said e = refl
too_many_entity keywords.Language said e = refl
too_many_entity keywords.Raw said e = refl
too_many_entity _ said e = absurd cc

room_for : (l : Line) (said : List ParsedLine) → is_too_many (keyword_said l) said ≡ false → count keywords.Stream said ≤ 4 → count keywords.Block said ≤ 64 → count_entities 0 said ≤ 64 → Room l said
unfolding is_too_many
room_for (lines.Stream stream) said e few blocks some = record { streams = grind (arith, nat_tests); blocks = omega (arith, blocks); entities = omega (arith, some) }
room_for (lines.Block from) said e few blocks some = record { streams = omega (arith, few); blocks = grind (arith, nat_tests); entities = omega arith }
room_for (lines.Entity entity) said e few blocks some =
    let full : nat_le 64 (count_entities 0 said) ≡ false = sym (too_many_entity _ said (entity_is_one entity.body)) ∙ e in
    record {
      streams = rw (entity_is_no_stream entity.body) (omega (arith, few));
      blocks = rw (entity_is_no_block entity.body) (omega (arith, blocks));
      entities = rw (entity_is_no_block entity.body, entity_is_one entity.body) (grind (arith, nat_tests));
    }
room_for _ said e few blocks some = record { streams = omega (arith, few); blocks = omega (arith, blocks); entities = omega (arith, some) }

-- a line of the last configuration, or one before the first
put_fits : (read : ParsedText) (n : ℕ) (l : Line) → LineInLines l → ReadInLines read → in_current (is_too_many (keyword_said l)) read.current ≡ false → ReadInLines (put (record { line = n; says = l }) read)
put_fits read n l here fits room = by read.current fits.current room
  where
    by : (current : Option ConfigLines) → IfSome current BlockInLines → in_current (is_too_many (keyword_said l)) current ≡ false → ReadInLines (put_into (record { line = n; says = l }) read.front read.closed current)
    by None in_lines room = record {
      front = All-append InSaid read.front (record { line = n; says = l } ∷ []) fits.front (All-cons InSaid (record { line = n; says = l }) [] here (All-nil InSaid));
      few_closed = fits.few_closed;
      closed = fits.closed;
      current = tt;
    }
    by (Some b) in_lines room =
        let left = room_for l b.lines room in_lines.few_streams in_lines.few_blocks (few_now 0 b.lines in_lines.few_entities) in
        record {
          front = fits.front;
          few_closed = fits.few_closed;
          closed = fits.closed;
          current = record {
            start_fits = in_lines.start_fits;
            countdown_fits = in_lines.countdown_fits;
            each_line = All-append InSaid b.lines (record { line = n; says = l } ∷ []) in_lines.each_line (All-cons InSaid (record { line = n; says = l }) [] here (All-nil InSaid));
            few_streams = rw (one_more (λ s. same (keyword_said s.says) keywords.Stream) b.lines (record { line = n; says = l })) left.streams;
            few_blocks = rw (one_more (λ s. same (keyword_said s.says) keywords.Block) b.lines (record { line = n; says = l })) left.blocks;
            few_entities = few_more 0 b.lines (record { line = n; says = l }) in_lines.few_entities left.entities;
          };
        }

neither : (a b : Bool) → (a || b) ≡ false → (a ≡ false) × (b ≡ false)
neither true b e = absurd cc
neither false b e = (refl, e)

-- a config line
begin_fits : (read : ParsedText) (n start countdown : ℕ) → start < 1000000 → countdown < 2 ^ 3 → ReadInLines read → in_current (is_incomplete (version_in read.front)) read.current ≡ false → nat_le 15 (length read.closed) ≡ false → ReadInLines (begin n start countdown read)
begin_fits read n start countdown start_fits countdown_fits fits whole few = by read.current fits.current whole
  where
    next : BlockInLines (record { line = n; start = start; countdown = countdown; lines = [] })
    next = record { start_fits = start_fits; countdown_fits = countdown_fits; each_line = All-nil InSaid; few_streams = omega arith; few_blocks = omega arith; few_entities = omega arith }

    by : (current : Option ConfigLines) → IfSome current BlockInLines → in_current (is_incomplete (version_in read.front)) current ≡ false
        → ReadInLines (record { front = read.front; closed = read.closed ++ option_to_list current; current = Some (record { line = n; start = start; countdown = countdown; lines = [] }) })
    by None in_lines whole =
        let none : length (read.closed ++ []) ≡ length read.closed + 0 = length-append read.closed [] in
        record {
          front = fits.front;
          few_closed = omega (arith, none, fits.few_closed);
          closed = All-append EndedInLines read.closed [] fits.closed (All-nil EndedInLines);
          current = next;
        }
    by (Some b) in_lines whole =
        let more : length (read.closed ++ b ∷ []) ≡ length read.closed + 1 = length-append read.closed (b ∷ []) in
        let some : length read.closed < 15 = grind (arith, nat_tests) in
        let ended : EndedInLines b = record { in_lines = in_lines; complete = (neither _ _ whole).0 } in
        record {
          front = fits.front;
          few_closed = omega (arith, more, some);
          closed = All-append EndedInLines read.closed (b ∷ []) fits.closed (All-cons EndedInLines b [] ended (All-nil EndedInLines));
          current = next;
        }

-- what a check that finds no fault has found
record Checked (full : Bool) : Type 0 where
  none : full ≡ false

checked : (m t f : Bool) (n : ℕ) → check_rows m t f n ≡ Ok tt → Checked f
checked true t f n e = absurd cc
checked false true f n e = absurd cc
checked false false true n e = absurd cc
checked false false false n e = record { none = refl }

-- the line put behind the others
pub add_fits : (read : ParsedText) (n : ℕ) (l : Line) → LineInLines l → ReadInLines read → ends_incomplete read (keyword_said l) ≡ false → check_of read n (keyword_said l) ≡ Ok tt → ReadInLines (add n l read)
unfolding check_of
add_fits read n (lines.Config start countdown) here fits whole found =
    let full = checked _ _ _ n found in
    let both = neither _ _ full.none in
    begin_fits read n start countdown here.0 here.1 fits whole both.1
add_fits read n l here fits whole found = put_fits read n l here fits (neither _ _ (checked _ _ _ n found).none).0
