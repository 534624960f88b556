-- Paths that ran side by side over their links.
use Rattle.std.proofs.Common.{◌≡◌, ℕ, suc, ◌+◌, ◌<◌, ◌⊎◌, inl, inr, Bool, true, false, List, [], ◌∷◌, length, map, slice_index_or, vec_len, Option, None, Some, MatchOption, Result, All, refl, sym, ◌∙◌, ap, subst, arith}
use Rattle.std.specs.Prelude.{sum_by}
use Rattle.std.specs.List.{list_any}
use Rattle.std.proofs.lemmas.List.{length-map, get_or-map}
use Rattle.std.proofs.lemmas.List.Folds.{Any-from_list_any, list_any_at}
use Rattle.std.proofs.lemmas.List.Sums.{sum_by-cons}
use Rattle.drm_links.specs.Known.{Known}
use Rattle.drm_links.specs.Link.{Traffic}
use Rattle.drm_links.proofs.Places.{index_of}
use Rattle.cli_paths.specs.declared.request.PathsRequest.{PathsRequest}
use Rattle.drm_paths.specs.declared.run.PathOptions.{PathOptions}
use Rattle.drm_paths.specs.declared.run.PathEnded.{PathEnded}
use Rattle.drm_paths.specs.declared.run.PathEnded.TheVariants as why
use Rattle.drm_paths.specs.declared.close.Closed.{Closed}
use Rattle.drm_paths.specs.declared.close.Closed.TheVariants as closed
use Rattle.drm_paths.specs.State.{PathState, new_path}
use Rattle.drm_paths.specs.Closing.{BookCloses}
use Rattle.report_journal.specs.Journal.{JournalState}
use Rattle.cmd_paths.specs.declared.receiver.PathReceiver.{PathReceiver}
use Rattle.cmd_paths.specs.Receivers.{IsPathJobReady, HaveNewPaths, EndedAs, HasPathEnded, has_failed, has_run_out}
use Rattle.cmd_paths.specs.Run.{settings_in, options_in}
use Rattle.drm_links.specs.Hearing.{LinkHeard}
use Rattle.drm_paths.specs.Reading.{ReadsPath}
use Rattle.cmd_paths.specs.declared.fault.PathsFault.{PathsFault}
use Rattle.cmd_paths.specs.Links.{ReadsLink, ReadsWhole, ReadAll, BreaksSome, BreaksNone, EndsLinks, PathFaultFits, AreRead, ending_of}

-- the paths are new, and each has its link
pub record AreNew {G L : Type 0} (links : List L) (paths : List PathState) (receivers : List (PathReceiver G L)) : Type 0 where
  pub many : length paths ≡ length links
  pub are : (k : ℕ) (d : PathState) → k < length links → slice_index_or paths k d ≡ new_path k
  pub paths_are : map (λ receiver. receiver.path) receivers ≡ paths
  pub links_are : map (λ receiver. receiver.link) receivers ≡ links

pub are_new : {G L : Type 0} (links : List L) (paths : List PathState) (receivers : List (PathReceiver G L)) (n : ℕ) → n ≡ length links → length paths ≡ n
    → ((k : ℕ) (d : PathState) → k < n → slice_index_or paths k d ≡ new_path k) → map (λ receiver. receiver.path) receivers ≡ paths → map (λ receiver. receiver.link) receivers ≡ links → AreNew links paths receivers
are_new links paths receivers n size many are paths_are links_are =
    record { many = many ∙ size; are = λ k d within. are k d (omega (arith, within, size)); paths_are = paths_are; links_are = links_are }

-- and they ran
pub record Ran {G L : Type 0} (known : L → Known Traffic) (options : PathOptions) (links : List L) (paths : List PathState) (receivers after : List (PathReceiver G L)) : Type 0 where
  pub new : AreNew links paths receivers
  pub still : length after ≡ length receivers
  pub ended : (k : ℕ) (d : PathReceiver G L) → k < length receivers → HasPathEnded known options (slice_index_or receivers k d) (slice_index_or after k d)

pub ran_then : {G L : Type 0} (known : L → Known Traffic) (options : PathOptions) (links : List L) (paths : List PathState) (receivers lent after : List (PathReceiver G L))
    → AreNew links paths receivers → lent ≡ receivers → length after ≡ length lent
    → ((k : ℕ) (d : PathReceiver G L) → k < length lent → HasPathEnded known options (slice_index_or lent k d) (slice_index_or after k d)) → Ran known options links paths receivers after
ran_then {G} {L} known options links paths receivers lent after new lent_is still ended =
    let E : List (PathReceiver G L) → Type 0 = λ xs. (k : ℕ) (d : PathReceiver G L) → k < length xs → HasPathEnded known options (slice_index_or xs k d) (slice_index_or after k d) in
    record { new = new; still = still ∙ ap length lent_is; ended = subst E lent_is ended }

as_many : {G L : Type 0} (links : List L) (paths : List PathState) (receivers : List (PathReceiver G L)) → AreNew links paths receivers → length receivers ≡ length links
as_many links paths receivers new = sym (length-map receivers (λ receiver. receiver.link)) ∙ ap length new.links_are

path_at : {G L : Type 0} (links : List L) (paths : List PathState) (receivers : List (PathReceiver G L)) → AreNew links paths receivers → (k : ℕ) (d : PathReceiver G L) → k < length receivers
    → (slice_index_or receivers k d).path ≡ new_path k
path_at links paths receivers new k d within =
    sym (get_or-map (λ receiver. receiver.path) receivers k d d.path within) ∙ ap (λ ps. slice_index_or ps k d.path) new.paths_are
    ∙ new.are k d.path (let many = as_many links paths receivers new in omega (arith, within, many))

link_at : {G L : Type 0} (links : List L) (paths : List PathState) (receivers : List (PathReceiver G L)) → AreNew links paths receivers → (k : ℕ) (d : PathReceiver G L) (none : L) → k < length receivers
    → slice_index_or links k none ≡ (slice_index_or receivers k d).link
link_at links paths receivers new k d none within = ap (λ ls. slice_index_or ls k none) (sym new.links_are) ∙ get_or-map (λ receiver. receiver.link) receivers k d none within

-- each job has a new path
pub each_new : {G L : Type 0} (links : List L) (paths : List PathState) (receivers : List (PathReceiver G L)) → AreNew links paths receivers → HaveNewPaths receivers
each_new links paths receivers new = path_at links paths receivers new

-- so these are new, of the jobs themselves
pub new_of : {G L : Type 0} (receivers : List (PathReceiver G L)) → HaveNewPaths receivers → AreNew (map (λ receiver. receiver.link) receivers) (map (λ receiver. receiver.path) receivers) receivers
new_of {G} {L} receivers have = record {
  many = length-map receivers (λ receiver. receiver.path) ∙ sym size;
  are = λ k d within.
      let inside : k < length receivers = omega (arith, within, size) in
      let (receiver, is) = index_of receivers k inside in
      get_or-map (λ receiver. receiver.path) receivers k receiver d inside ∙ have k receiver inside;
  paths_are = refl;
  links_are = refl;
}
  where
    size : length (map (λ (receiver : PathReceiver G L). receiver.link) receivers) ≡ length receivers
    size = length-map receivers (λ receiver. receiver.link)

-- none has taken anything
pub are_ready : {G L : Type 0} (links : List L) (paths : List PathState) (receivers : List (PathReceiver G L)) → AreNew links paths receivers → All (λ receiver. vec_len receiver.buffer ≡ 65536) receivers → All IsPathJobReady receivers
are_ready links paths receivers new buffers k d within =
    record { new = ap (λ (p : PathState). p.taken) (path_at links paths receivers new k d within); buffer = buffers k d within }

failed_is : (ended : Option PathEnded) → has_failed ended ≡ true → ended ≡ Some why.LinkFailed
failed_is None is = absurd (cc)
failed_is (Some why.LinkFailed) is = refl
failed_is (Some why.Idle) is = absurd (cc)
failed_is (Some why.Limit) is = absurd (cc)
failed_is (Some why.NoMemory) is = absurd (cc)

module _ {G L : Type 0} (known : L → Known Traffic) (options : PathOptions) (before after : PathReceiver G L) where
  abbrev Was : Option PathEnded → Type 0
  Was ended = MatchOption ended ⊥ (EndedAs known options before after)

  whole_by : (ended : Option PathEnded) → Was ended → (has_failed ended ≡ true → ⊥) → (has_run_out ended ≡ true → ⊥) → ReadsWhole options (known before.link) after.path.taken
  whole_by None was failed out = absurd was
  whole_by (Some why.Idle) was failed out = inl (known after.link, was.reads)
  whole_by (Some why.Limit) was failed out = inr (known after.link, was.reads)
  whole_by (Some why.LinkFailed) was failed out = absurd (failed refl)
  whole_by (Some why.NoMemory) was failed out = absurd (out refl)

  unbroken_by : (ended : Option PathEnded) → Was ended → (has_failed ended ≡ true → ⊥)
      → ReadsWhole options (known before.link) after.path.taken ⊎ ReadsLink options (known before.link) after.path.taken why.NoMemory
  unbroken_by None was failed = absurd was
  unbroken_by (Some why.Idle) was failed = inl (inl (known after.link, was.reads))
  unbroken_by (Some why.Limit) was failed = inl (inr (known after.link, was.reads))
  unbroken_by (Some why.LinkFailed) was failed = absurd (failed refl)
  unbroken_by (Some why.NoMemory) was failed = inr (known after.link, was.reads)

  same_path : (ended : Option PathEnded) → Was ended → (after.path.number ≡ before.path.number) × (after.path.parts ≡ before.path.parts)
  same_path None was = absurd was
  same_path (Some ended) was = (was.number, was.parts)

sum_ones : (paths : List PathState) → ((k : ℕ) (d : PathState) → k < length paths → (slice_index_or paths k d).parts ≡ 1) → sum_by (λ p. p.parts) paths ≡ length paths
sum_ones [] ones = refl
sum_ones (p ∷ paths) ones =
    let first : p.parts ≡ 1 = ones 0 p (omega arith) in
    let rest : sum_by (λ p. p.parts) paths ≡ length paths = sum_ones paths (λ k d l. ones (suc k) d (omega (arith, l))) in
    let sum : sum_by (λ p. p.parts) (p ∷ paths) ≡ p.parts + sum_by (λ p. p.parts) paths = sum_by-cons (λ p. p.parts) p paths in
    omega (arith, first, rest, sum)

module _ {G L : Type 0} (known : L → Known Traffic) (options : PathOptions) (links : List L) (paths : List PathState) (receivers after : List (PathReceiver G L)) (ran : Ran known options links paths receivers after) where
  pub many : length receivers ≡ length links
  many = as_many links paths receivers ran.new

  -- the link of one failed
  pub breaks : list_any (λ receiver. has_failed receiver.ended) after ≡ true → BreaksSome options known links
  breaks any =
      let (k, receiver, within, is, failed) = Any-from_list_any (λ (j : PathReceiver G L). has_failed j.ended) after any in
      let still = ran.still in
      let inside : k < length receivers = omega (arith, within, still) in
      let was : EndedAs known options (slice_index_or receivers k receiver) (slice_index_or after k receiver) why.LinkFailed =
      subst (Was known options (slice_index_or receivers k receiver) (slice_index_or after k receiver))
      (failed_is (slice_index_or after k receiver).ended (ap (λ (j : PathReceiver G L). has_failed j.ended) is ∙ failed)) (ran.ended k receiver inside) in
      record {
        k = k;
        within = omega (arith, inside, many);
        fails = λ none. (
          (slice_index_or after k receiver).path.taken,
          subst (λ l. ReadsLink options (known l) (slice_index_or after k receiver).path.taken why.LinkFailed) (sym (link_at links paths receivers ran.new k receiver none inside)) (known (slice_index_or after k receiver).link, was.reads),
        );
      }

  -- the paths then
  abbrev pub taken_then : List PathState
  taken_then = map (λ receiver. receiver.path) after

  then_many : length taken_then ≡ length links
  then_many = length-map after (λ receiver. receiver.path) ∙ ran.still ∙ many

  module _ (k : ℕ) (within : k < length links) where
    pub inside : k < length receivers
    inside = omega (arith, within, many)

    behind : k < length after
    behind = let still = ran.still in omega (arith, inside, still)

    abbrev pub receiver : PathReceiver G L
    receiver = (index_of receivers k inside).0

    abbrev pub now : PathState
    now = (slice_index_or after k receiver).path

    then_is : (d : PathState) → slice_index_or taken_then k d ≡ now
    then_is d = get_or-map (λ j. j.path) after k receiver d behind

    same : (now.number ≡ (slice_index_or receivers k receiver).path.number) × (now.parts ≡ (slice_index_or receivers k receiver).path.parts)
    same = same_path known options (slice_index_or receivers k receiver) (slice_index_or after k receiver) (slice_index_or after k receiver).ended (ran.ended k receiver inside)

    pub then_number : (d : PathState) → (slice_index_or taken_then k d).number ≡ k
    then_number d = ap (λ (p : PathState). p.number) (then_is d) ∙ same.0 ∙ ap (λ (p : PathState). p.number) (path_at links paths receivers ran.new k receiver inside)

    pub then_parts : (d : PathState) → (slice_index_or taken_then k d).parts ≡ 1
    then_parts d = ap (λ (p : PathState). p.parts) (then_is d) ∙ same.1 ∙ ap (λ (p : PathState). p.parts) (path_at links paths receivers ran.new k receiver inside)

    is_none : (p : PathReceiver G L → Bool) → list_any p after ≡ false → p (slice_index_or after k receiver) ≡ true → ⊥
    is_none p not_any is = let any : list_any p after ≡ true = list_any_at p after k receiver behind is in let both : true ≡ false = sym any ∙ not_any in cc

    ended_so : (o : Option PathEnded) → (slice_index_or after k receiver).ended ≡ o → Was known options (slice_index_or receivers k receiver) (slice_index_or after k receiver) o
        → (w : PathEnded) × ((slice_index_or after k receiver).ended ≡ Some w) × ReadsPath options (LinkHeard (known (slice_index_or receivers k receiver).link) (known (slice_index_or after k receiver).link)) now.taken w
    ended_so None is was = absurd was
    ended_so (Some w) is was = (w, is, was.reads)

    -- how it has read its link
    then_read : (d : L) → (w : PathEnded) × ((slice_index_or after k receiver).ended ≡ Some w)
        × ReadsPath options (LinkHeard (known (slice_index_or links k d)) (known (slice_index_or (map (λ j. j.link) after) k d))) now.taken w
    then_read d =
        let r = ended_so (slice_index_or after k receiver).ended refl (ran.ended k receiver inside) in (
          r.0,
          r.1,
          subst (λ l. ReadsPath options (LinkHeard (known l) (known (slice_index_or (map (λ j. j.link) after) k d))) now.taken r.0) (sym (link_at links paths receivers ran.new k receiver d inside))
              (subst (λ l. ReadsPath options (LinkHeard (known (slice_index_or receivers k receiver).link) (known l)) now.taken r.0) (sym (get_or-map (λ j. j.link) after k receiver d behind)) r.2),
        )

    some_so : (p : PathReceiver G L → Bool) → p (slice_index_or after k receiver) ≡ true → list_any p after ≡ true
    some_so p is = list_any_at p after k receiver behind is

    pub then_unbroken : list_any (λ (j : PathReceiver G L). has_failed j.ended) after ≡ false → (none : L)
        → ReadsWhole options (known (slice_index_or links k none)) now.taken ⊎ ReadsLink options (known (slice_index_or links k none)) now.taken why.NoMemory
    then_unbroken failed none =
        let reads = unbroken_by known options (slice_index_or receivers k receiver) (slice_index_or after k receiver) (slice_index_or after k receiver).ended (ran.ended k receiver inside) (is_none (λ j. has_failed j.ended) failed) in
        subst (λ l. ReadsWhole options (known l) now.taken ⊎ ReadsLink options (known l) now.taken why.NoMemory) (sym (link_at links paths receivers ran.new k receiver none inside)) reads

    pub then_whole : list_any (λ (j : PathReceiver G L). has_failed j.ended) after ≡ false → list_any (λ (j : PathReceiver G L). has_run_out j.ended) after ≡ false
        → (none : L) (d : PathState) → ReadsWhole options (known (slice_index_or links k none)) (slice_index_or taken_then k d).taken
    then_whole failed out none d =
        let reads = whole_by known options (slice_index_or receivers k receiver) (slice_index_or after k receiver) (slice_index_or after k receiver).ended (ran.ended k receiver inside)
        (is_none (λ j. has_failed j.ended) failed) (is_none (λ j. has_run_out j.ended) out) in
        subst (λ l. ReadsWhole options (known l) (slice_index_or taken_then k d).taken) (sym (link_at links paths receivers ran.new k receiver none inside))
        (subst (λ (p : PathState). ReadsWhole options (known (slice_index_or receivers k receiver).link) p.taken) (sym (then_is d)) reads)

  -- what all have read of their links
  pub are_read : {T : Type 0} (result : Result T PathsFault)
      → ((w : PathEnded) → (has_failed (Some w) ≡ true → list_any (λ (j : PathReceiver G L). has_failed j.ended) after ≡ true)
      → (has_run_out (Some w) ≡ true → list_any (λ (j : PathReceiver G L). has_run_out j.ended) after ≡ true) → PathFaultFits result w)
      → AreRead options known links (map (λ j. j.link) after) result
  are_read result fits = record {
    as_many = length-map after (λ j. j.link) ∙ ran.still ∙ many;
    each = λ k d within.
        let r = then_read k within d in (
          r.0,
          (now k within).taken,
          r.2,
          fits r.0 (λ failed. some_so k within (λ j. has_failed j.ended) (ap has_failed r.1 ∙ failed)) (λ out. some_so k within (λ j. has_run_out j.ended) (ap has_run_out r.1 ∙ out)),
        );
  }

  -- none broke off
  pub breaks_none : list_any (λ (j : PathReceiver G L). has_failed j.ended) after ≡ false → BreaksNone options known links
  breaks_none failed k none within = ((now k within).taken, then_unbroken k within failed none)

  -- they have all parts of the ledger
  pub all_parts : sum_by (λ p. p.parts) taken_then ≡ length links
  all_parts = sum_ones taken_then (λ k d l. then_parts k (omega (arith, l, then_many)) d) ∙ then_many

-- ---- what may end a path

pub not_so : {b : Bool} → b ≡ false → b ≡ true → ⊥
not_so is other = let both : false ≡ true = sym is ∙ other in cc

pub fits_whole : (w : PathEnded) → (has_failed (Some w) ≡ true → ⊥) → (has_run_out (Some w) ≡ true → ⊥) → (w ≡ why.Idle) ⊎ (w ≡ why.Limit)
fits_whole why.Idle failed out = inl refl
fits_whole why.Limit failed out = inr refl
fits_whole why.LinkFailed failed out = absurd (failed refl)
fits_whole why.NoMemory failed out = absurd (out refl)

-- where a book was closed after all paths
pub fits_closed : (c : Closed) (w : PathEnded) → (has_failed (Some w) ≡ true → ⊥) → (has_run_out (Some w) ≡ true → ⊥) → PathFaultFits (ending_of c) w
fits_closed (closed.Whole ending) w failed out = fits_whole w failed out
fits_closed (closed.Differ difference) w failed out = fits_whole w failed out
fits_closed closed.NoMemory w failed out = λ is. failed (ap (λ v. has_failed (Some v)) is)

-- how the reading of their links ends
module _ {G L : Type 0} (request : PathsRequest) (known : L → Known Traffic) (links : List L) (paths : List PathState) (receivers after : List (PathReceiver G L)) (ran : Ran known (options_in request) links paths receivers after) where
  abbrev then_paths : List PathState
  then_paths = map (λ receiver. receiver.path) after

  read_all : list_any (λ (j : PathReceiver G L). has_failed j.ended) after ≡ false → list_any (λ (j : PathReceiver G L). has_run_out j.ended) after ≡ false → ReadAll (options_in request) known links then_paths
  read_all failed out = record {
    as_many = then_many known (options_in request) links paths receivers after ran;
    numbers = λ k d within. then_number known (options_in request) links paths receivers after ran k within d;
    each = λ k none d within. then_whole known (options_in request) links paths receivers after ran k within failed out none d;
  }

  -- where none failed, and their book was closed
  pub ends_by : list_any (λ (j : PathReceiver G L). has_failed j.ended) after ≡ false → list_any (λ (j : PathReceiver G L). has_run_out j.ended) after ≡ false
      → (journal : JournalState) (closed : Closed) → BookCloses (settings_in request) journal then_paths closed → EndsLinks request known links (ending_of closed)
  ends_by failed out journal (closed.Whole ending) closes = record { paths = then_paths; read = read_all failed out; journal = journal; closes = closes }
  ends_by failed out journal (closed.Differ difference) closes = (difference, refl, refl, record { paths = then_paths; read = read_all failed out; journal = journal; closes = closes })
  ends_by failed out journal closed.NoMemory closes = breaks_none known (options_in request) links paths receivers after ran failed
