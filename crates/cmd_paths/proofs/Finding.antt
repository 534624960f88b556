-- What is read of links is what stood ahead of those that a dock had at their addresses.
use Rattle.std.proofs.Common.{◌≡◌, ℕ, ◌<◌, ◌⊎◌, inl, inr, List, [], length, slice_index_or, Option, None, Some, IsNone, All, Err, sym, ◌∙◌, ap, subst, arith}
use Rattle.drm_links.specs.Known.{Known}
use Rattle.drm_links.specs.Link.{Traffic}
use Rattle.drm_links.specs.Dock.{DockContents, LinkStart, OpeningFinds, FindsNone}
use Rattle.drm_links.specs.declared.dock.Address.{Address}
use Rattle.drm_links.proofs.Places.{index_of}
use Rattle.drm_paths.specs.declared.run.PathOptions.{PathOptions}
use Rattle.drm_paths.specs.State.{PathState, new_path}
use Rattle.drm_paths.specs.Closing.{of_path, AreCounted, AllAgree}
use Rattle.cli_paths.specs.declared.request.PathsRequest.{PathsRequest}
use Rattle.cmd_paths.specs.declared.fault.PathsFault.TheVariants as faults
use Rattle.cmd_paths.specs.Ahead.{IsAllOf, BreaksOff}
use Rattle.cmd_paths.specs.Opening.{HaveLinks}
use Rattle.cmd_paths.specs.Run.{options_in, IsPathsRequestInRange, AreEntries, AreOfAnswers, AreOfPaths, FailsSome, ReadAll, DiffersAt}
use Rattle.cmd_paths.specs.Links.{BreaksSome, EndsLinks, ReadsWhole}
use Rattle.cmd_paths.specs.Links as Links
use Rattle.cmd_paths.proofs.OneReading.{whole_is_whole}
use Rattle.cmd_paths.proofs.Hearing.{read_ahead, whole_ahead}

some_is : (found : Option LinkStart) (start : LinkStart) → found ≡ Some start → IsNone found → ⊥
some_is None start is none = cc
some_is (Some x) start is none = cc

-- where a link is found, it is found
not_none : (contents : DockContents) (k : ℕ) (at : Address) (start : LinkStart) → OpeningFinds contents k at start → FindsNone contents k at → ⊥
not_none contents k at start finds (inl fails) = finds.allowed fails
not_none contents k at start finds (inr none) = some_is _ start finds.stands none

one_start : (found : Option LinkStart) (start other : LinkStart) → found ≡ Some start → found ≡ Some other → other ≡ start
one_start None start other is also = absurd (cc)
one_start (Some x) start other is also = cc

-- a path that read all took the datagrams of some answers
ends_by : (options : PathOptions) (link : Known Traffic) (taken : List (List ℕ)) → ReadsWhole options link taken → AreOfAnswers options taken
ends_by options link taken (inl reads) = (reads.1.answers, inl reads.1.ends)
ends_by options link taken (inr reads) = (reads.1.answers, inr reads.1.ends)

-- a journal that agrees with paths has what they took
pub entries_of_paths : {L : Type 0} (request : PathsRequest) (known : L → Known Traffic) (links : List L) → length links ≡ length request.addresses
    → (paths : List PathState) (entries : List (ℕ × List ℕ)) → Links.ReadAll (options_in request) known links paths → AreCounted entries paths → AllAgree entries paths
    → AreOfPaths request entries
entries_of_paths request known links many paths entries read counted agree =
    let size : length paths ≡ length request.addresses = read.as_many ∙ many in
    let d : PathState = new_path 0 in
    record {
      each = λ k within.
          let inside : k < length links = omega (arith, within, many) in
          let (link, is) = index_of links k inside in
          let taken : of_path k entries ≡ (slice_index_or paths k d).taken =
          ap (λ n. of_path n entries) (sym (read.numbers k d inside)) ∙ agree k d (omega (arith, within, size)) in
          subst (AreOfAnswers (options_in request)) (sym taken) (ends_by (options_in request) (known (slice_index_or links k link)) (slice_index_or paths k d).taken (read.each k link d inside));
      others = subst (λ n. All (λ e. e.0 < n) entries) size counted.numbered;
    }

module _ {L : Type 0} (request : PathsRequest) (range : IsPathsRequestInRange request) (known : L → Known Traffic) (links : List L) (many : length links ≡ length request.addresses)
    (contents : DockContents) (have : HaveLinks known contents request.addresses links) where
  pub read_all : (paths : List PathState) → Links.ReadAll (options_in request) known links paths → ReadAll request contents paths
  read_all paths read = record {
    as_many = read.as_many ∙ many;
    numbers = λ k d within. read.numbers k d (omega (arith, within, many));
    each = λ k at d within.
        let (link, is) = index_of links k (omega (arith, within, many)) in
        let (start, finds, new) = have k at link within in
        (start, finds, whole_ahead request range start (known (slice_index_or links k link)) new (slice_index_or paths k d).taken (read.each k link d (omega (arith, within, many))));
  }

  -- a journal that agrees with them has what they read
  pub entries_ahead : (paths : List PathState) (entries : List (ℕ × List ℕ)) → Links.ReadAll (options_in request) known links paths → AreCounted entries paths → AllAgree entries paths → AreEntries request contents entries
  entries_ahead paths entries read counted agree =
      let all : ReadAll request contents paths = read_all paths read in
      let size : length paths ≡ length request.addresses = all.as_many in
      let d : PathState = new_path 0 in
      record {
        each = λ k at within.
            let (start, finds, is_all) = all.each k at d within in
            let taken : of_path k entries ≡ (slice_index_or paths k d).taken =
            ap (λ n. of_path n entries) (sym (all.numbers k d within)) ∙ agree k d (omega (arith, within, size)) in
            (start, finds, subst (λ t. IsAllOf (options_in request) start.ahead t) (sym taken) is_all);
        others = subst (λ n. All (λ e. e.0 < n) entries) size counted.numbered;
      }

  pub fails_ahead : BreaksSome (options_in request) known links → FailsSome request contents
  fails_ahead breaks =
      let within : breaks.k < length request.addresses = (let w = breaks.within in omega (arith, w, many)) in
      record {
        k = breaks.k;
        within = within;
        fails = λ at.
            let (link, is) = index_of links breaks.k breaks.within in
            let (start, finds, new) = have breaks.k at link within in
            let (taken, reads) = breaks.fails link in
            inr (start, finds, (taken, read_ahead request range start (known (slice_index_or links breaks.k link)) new taken _ reads));
      }

  pub none_fails : (paths : List PathState) → Links.ReadAll (options_in request) known links paths → FailsSome request contents → ⊥
  none_fails paths read fails =
      let inside : fails.k < length links = (let w = fails.within in omega (arith, w, many)) in
      let (link, is) = index_of links fails.k inside in
      let at : Address = record { ip = []; port = 0 } in
      let (start, finds, new) = have fails.k at link fails.within in
      let d : PathState = new_path 0 in
      let taken = (slice_index_or paths fails.k d).taken in
      let all = whole_ahead request range start (known (slice_index_or links fails.k link)) new taken (read.each fails.k link d inside) in
      elim (fails.fails at) [
        | inl none ↦ not_none contents fails.k (slice_index_or request.addresses fails.k at) start finds none
        | inr found ↦
            let same : found.0 ≡ start = one_start _ start found.0 finds.stands found.1.stands in
            whole_is_whole (options_in request) start.ahead taken all (subst (λ (s : LinkStart). BreaksOff (options_in request) s.ahead) same found.2)
      ]

  pub differ_ahead : (path at : ℕ) → EndsLinks request known links (Err (faults.Differs path at)) → DiffersAt request contents path at
  differ_ahead path at (difference, path_is, at_is, are) =
      record { paths = are.paths; read = read_all are.paths are.read; journal = are.journal; difference = difference; closes = are.closes; path_is = path_is; at_is = at_is }
