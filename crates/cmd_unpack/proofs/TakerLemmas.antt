-- Either taker, item by item.
use Rattle.std.proofs.Common.{◌≡◌, ℕ, ◌<◌, List, [], ◌∷◌, ◌++◌, Option, refl, sym, ap, subst, ◌∙◌, arith, Result, Ok, Err, OnOk}
use Rattle.drm_links.specs.Known.{Known}
use Rattle.drm_links.specs.Sink.{Output}
use Rattle.mod_feed.specs.Items.{FrameItem}
use Rattle.drm_data.specs.Joining.{JoinerState, made}
use Rattle.drm_text.specs.Joining as joining
use Rattle.cmd_unpack.specs.declared.counts.Counts.{Counts}
use Rattle.cmd_unpack.specs.declared.units.UnitTaker.{UnitTaker}
use Rattle.cmd_unpack.specs.declared.messages.MessageTaker.{MessageTaker}
use Rattle.cmd_unpack.specs.declared.taker.Taker.TheVariants.{Units, Messages}
use Rattle.cmd_unpack.specs.Streams.{PayloadKind, UnitsOf, TextsOf, reading, entries_at, bad_at, missing_at, bad_in, missing_in}
use Rattle.cmd_unpack.specs.Taken.{no_counts, new_taker, JoinsEntries, TakesEntries, TookUnits, TookMessages, TakesMessages, TakerTook, TakesItem, IsTakerReady, IsJoinerOf}
use Rattle.cmd_unpack.proofs.Joining.{all_length, joins_none, joins_then}
use Rattle.cmd_unpack.proofs.Items.{reading_more, bad_more, missing_more}

units_more : (k id d : ℕ) (items : List FrameItem) (item : FrameItem) (text line : List ℕ) (t u : UnitTaker) → TookUnits k id d items text t
    → JoinsEntries t u (entries_at (UnitsOf k id d) item) (bad_at (UnitsOf k id d) item) (missing_at item) line → TookUnits k id d (items ++ item ∷ []) (text ++ line) u
units_more k id d items item text line t u took joins =
    let what : PayloadKind = UnitsOf k id d in
    rw (reading_more what items item)
    (rw (bad_more what items item)
    (rw (missing_more items item)
    (joins_then (new_taker k id d) t u (reading what items) (entries_at what item) (bad_in what items) (missing_in items) (bad_at what item) (missing_at item) text line took joins)))

units_takes : {E : Type 0} (result : Result (Unit {0}) E) (k id d : ℕ) (items : List FrameItem) (item : FrameItem) (text : List ℕ) (t u : UnitTaker) (a b : Known Output)
    → TookUnits k id d items text t → TakesEntries result t u (entries_at (UnitsOf k id d) item) (bad_at (UnitsOf k id d) item) (missing_at item) a b
    → TakesItem (UnitsOf k id d) items item text result (Units u) a b
units_takes {E} result k id d items item text t u a b took takes = record {
  after = Units takes.after;
  line = takes.line;
  took = units_more k id d items item text takes.line t takes.after took takes.joins;
  writes = takes.writes;
  after_is = by result takes.after_is;
}
  where
    by : (r : Result (Unit {0}) E) → OnOk r (u ≡ takes.after) → OnOk r (Units u ≡ Units takes.after)
    by (Ok done) is = ap Units is
    by (Err fault) is = tt

pub units_item : {E : Type 0} (what : PayloadKind) (result : Result (Unit {0}) E) (items : List FrameItem) (item : FrameItem) (text : List ℕ) (t u : UnitTaker) (a b : Known Output)
    → TakerTook what items text (Units t)
    → ((id : ℕ) → TakesEntries result t u (entries_at (UnitsOf t.stream id t.length) item) (bad_at (UnitsOf t.stream id t.length) item) (missing_at item) a b)
    → TakesItem what items item text result (Units u) a b
units_item (TextsOf k) result items item text t u a b took takes = absurd took
units_item (UnitsOf k id d) result items item text t u a b took takes =
    let P : ℕ → Type 0 = λ n. TakesEntries result t u (entries_at (UnitsOf n id t.length) item) (bad_at (UnitsOf n id t.length) item) (missing_at item) a b in
    let Q : ℕ → Type 0 = λ n. TakesEntries result t u (entries_at (UnitsOf k id n) item) (bad_at (UnitsOf k id n) item) (missing_at item) a b in
    units_takes result k id d items item text t u a b took (subst Q took.size (subst P took.stream (takes id)))

pub units_ready : {E : Type 0} (result : Result (Unit {0}) E) (t u : UnitTaker) (entries : List (Option (List ℕ))) (bad missing : ℕ) (a b : Known Output)
    → TakesEntries result t u entries bad missing a b → t.stream < 4 → IsJoinerOf t → OnOk result (IsTakerReady (Units u))
units_ready (Err fault) t u entries bad missing a b takes few joiner = tt
units_ready (Ok done) t u entries bad missing a b takes few joiner =
    let j = takes.joins in
    let is : u ≡ takes.after = takes.after_is in
    let P : UnitTaker → Type 0 = λ v. IsTakerReady (Units v) in
    let long : takes.after.joiner.length ≡ takes.after.length =
    ap (λ (s : JoinerState). s.length) j.joiner ∙ (all_length t.joiner j.events ∙ (joiner.0 ∙ sym j.size)) in
    subst P (sym is) (omega (arith, j.stream, few), (long, omega (arith, j.size, joiner.1)))

pub messages_item : {E : Type 0} (what : PayloadKind) (result : Result (Unit {0}) E) (items : List FrameItem) (item : FrameItem) (text : List ℕ) (t u : MessageTaker) (a b : Known Output)
    → TakerTook what items text (Messages t)
    → ((items : List FrameItem) (text : List ℕ) → TookMessages t.stream items text t → TakesMessages t.stream items item text result u a b)
    → TakesItem what items item text result (Messages u) a b
messages_item (UnitsOf k id d) result items item text t u a b took takes = absurd took
messages_item {E} (TextsOf k) result items item text t u a b took takes =
    let P : ℕ → Type 0 = λ n. TookMessages n items text t in
    let Q : ℕ → Type 0 = λ n. TakesMessages n items item text result u a b in
    let stream : t.stream ≡ k = took.stream in
    let one : TakesMessages k items item text result u a b = subst Q stream (takes items text (subst P (sym stream) took)) in
    record { after = Messages one.after; line = one.line; took = one.took; writes = one.writes; after_is = by one.after result one.after_is }
  where
    by : (after : MessageTaker) (r : Result (Unit {0}) E) → OnOk r (u ≡ after) → OnOk r (Messages u ≡ Messages after)
    by after (Ok done) is = ap Messages is
    by after (Err fault) is = tt

-- nothing was taken yet
pub no_units : (k id d : ℕ) (joiner : JoinerState) (counts : Counts) → joiner ≡ made id d → counts ≡ no_counts → TookUnits k id d [] [] (record { stream = k; length = d; joiner = joiner; counts = counts })
no_units k id d joiner counts new none = rw new (rw none (joins_none (new_taker k id d)))

pub no_messages : (k : ℕ) (joiner : joining.TextState) (counts : Counts) → joiner ≡ joining.made → counts ≡ no_counts → TookMessages k [] [] (record { stream = k; joiner = joiner; counts = counts })
no_messages k joiner counts new none = record {
  stream = refl;
  texts = [];
  runs = (refl, new);
  text_is = refl;
  given_is = ap (λ (n : Counts). n.given) none;
  cut_is = ap (λ (n : Counts). n.cut) none;
  bad_is = ap (λ (n : Counts). n.bad) none;
  missing_is = ap (λ (n : Counts). n.missing) none;
}
