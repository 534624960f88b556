-- The links of a run, read side by side.
use Rattle.std.specs.Prelude.{ℕ, ◌≡◌, ◌<◌, ◌⊎◌, List, length, slice_index_or, Result, Ok, Err}
use Rattle.drm_links.specs.Known.{Known, HasFailed, KnownThrough}
use Rattle.drm_links.specs.Link.{Traffic}
use Rattle.drm_links.specs.Dock.{DockContents, DockKnownThrough, after_openings}
use Rattle.drm_links.specs.Binding.{BindsFew}
use Rattle.drm_links.specs.Hearing.{LinkHeard}
use Rattle.report_text.specs.Reports.{Report}
use Rattle.cli_paths.specs.declared.request.PathsRequest.{PathsRequest}
use Rattle.report_journal.specs.Journal.{JournalState}
use Rattle.drm_paths.specs.declared.run.PathOptions.{PathOptions}
use Rattle.drm_paths.specs.declared.run.PathEnded.{PathEnded}
use Rattle.drm_paths.specs.declared.run.PathEnded.TheVariants.{Idle, Limit, LinkFailed, NoMemory}
use Rattle.drm_paths.specs.State.{PathState}
use Rattle.drm_paths.specs.Reading.{ReadsPath}
use Rattle.drm_paths.specs.Closing.{BookCloses}
use Rattle.drm_paths.specs.declared.close.Difference.{Difference}
use Rattle.drm_paths.specs.declared.close.Closed.{Closed}
use Rattle.drm_paths.specs.declared.close.Closed.TheVariants as closed
use Rattle.cmd_paths.specs.Opening.{HaveLinks, IsClosed}
use Rattle.cmd_paths.specs.Run.{settings_in, options_in}
use Rattle.cmd_paths.specs.declared.fault.PathsFault.{PathsFault}
use Rattle.cmd_paths.specs.declared.fault.PathsFault.TheVariants as faults

-- a path over this link took these datagrams, and ended so
abbrev pub ReadsLink : PathOptions → Known Traffic → List (List ℕ) → PathEnded → Type 0
ReadsLink options link taken why = (after : Known Traffic) × ReadsPath options (LinkHeard link after) taken why

-- and nothing failed
abbrev pub ReadsWhole : PathOptions → Known Traffic → List (List ℕ) → Type 0
ReadsWhole options link taken = ReadsLink options link taken Idle ⊎ ReadsLink options link taken Limit

-- These are the paths of the links: each took all datagrams that came over its link, and nothing failed.
pub record ReadAll {L : Type 0} (options : PathOptions) (known : L → Known Traffic) (links : List L) (paths : List PathState) : Type 0 where
  pub as_many : length paths ≡ length links
  pub numbers : (k : ℕ) (d : PathState) → k < length links → (slice_index_or paths k d).number ≡ k
  pub each : (k : ℕ) (none : L) (d : PathState) → k < length links
      → ReadsWhole options (known (slice_index_or links k none)) (slice_index_or paths k d).taken

-- the link of some path failed
pub record BreaksSome {L : Type 0} (options : PathOptions) (known : L → Known Traffic) (links : List L) : Type 0 where
  pub k : ℕ
  pub within : k < length links
  pub fails : (none : L) → (taken : List (List ℕ)) × ReadsLink options (known (slice_index_or links k none)) taken LinkFailed

-- all were read, and none failed: each path ended well, or for want of memory
abbrev pub BreaksNone : {L : Type 0} → PathOptions → (L → Known Traffic) → List L → Type 0
BreaksNone {L} options known links =
    (k : ℕ) (none : L) → k < length links
    → (taken : List (List ℕ)) × (let link = known (slice_index_or links k none) in ReadsWhole options link taken ⊎ ReadsLink options link taken NoMemory)

-- All links were read, and their book was closed so.
pub record AreClosed {L : Type 0} (request : PathsRequest) (known : L → Known Traffic) (links : List L) (closed : Closed) : Type 0 where
  pub paths : List PathState
  pub read : ReadAll (options_in request) known links paths
  pub journal : JournalState
  pub closes : BookCloses (settings_in request) journal paths closed

-- How the reading of these links ends.
abbrev pub EndsLinks : {L : Type 0} → PathsRequest → (L → Known Traffic) → List L → Result Report PathsFault → Type 0
EndsLinks request known links (Ok ending) = AreClosed request known links (closed.Whole ending)
EndsLinks request known links (Err faults.NoMemory) = BreaksNone (options_in request) known links
EndsLinks request known links (Err faults.Words) = ⊥
EndsLinks request known links (Err faults.Write) = ⊥
EndsLinks request known links (Err faults.Link) = BreaksSome (options_in request) known links
EndsLinks request known links (Err (faults.Differs path at)) =
    (difference : Difference) × (path ≡ difference.path) × (at ≡ difference.at) × AreClosed request known links (closed.Differ difference)

-- what may end a path of a run that ends so
abbrev pub PathFaultFits : {T : Type 0} → Result T PathsFault → PathEnded → Type 0
PathFaultFits (Err faults.Link) why = Unit {0}
PathFaultFits (Err faults.NoMemory) why = why ≡ LinkFailed → ⊥
PathFaultFits result why = (why ≡ Idle) ⊎ (why ≡ Limit)

-- These links were read by paths, of a run that ends so, and now are the last ones.
pub record AreRead {L T : Type 0} (options : PathOptions) (known : L → Known Traffic) (links last : List L) (result : Result T PathsFault) : Type 0 where
  pub as_many : length last ≡ length links
  pub each : (k : ℕ) (d : L) → k < length links
      → (why : PathEnded) × (taken : List (List ℕ))
      × ReadsPath options (LinkHeard (known (slice_index_or links k d)) (known (slice_index_or last k d))) taken why × PathFaultFits result why

-- These links were read, and then closed.
pub record ReadsAndCloses {L T : Type 0} (request : PathsRequest) (known : L → Known Traffic) (links : List L) (result : Result T PathsFault) (before after : Known DockContents) : Type 0 where
  pub last : List L
  pub read : AreRead (options_in request) known links last result
  pub closed : KnownThrough before after (IsClosed known request.addresses last)

-- The links were opened, read and closed.
pub record RunsOver {L : Type 0} (request : PathsRequest) (known : L → Known Traffic) (result : Result Report PathsFault) (before after : Known DockContents) : Type 0 where
  pub links : List L
  pub many : length links ≡ length request.addresses
  pub mid : Known DockContents
  pub opened : KnownThrough before mid (λ contents contents'. contents' ≡ after_openings request.addresses contents)
  pub have : DockKnownThrough before mid (λ contents. HaveLinks known contents request.addresses links)
  pub ends : EndsLinks request known links result
  pub read : ReadsAndCloses request known links result mid after
  pub still : after.faults ≡ before.faults

-- There was no memory to begin with, or an opening failed, or the links were read.
abbrev pub RunsLinks : {L : Type 0} → PathsRequest → (L → Known Traffic) → Result Report PathsFault → Known DockContents → Known DockContents → Type 0
RunsLinks request known result before after =
    ((result ≡ Err faults.NoMemory) × (after ≡ before))
    ⊎ ((result ≡ Err faults.Link) × KnownThrough before after (BindsFew request.addresses) × HasFailed before after)
    ⊎ RunsOver request known result before after

-- how a run ends that is closed so
abbrev pub ending_of : Closed → Result Report PathsFault
ending_of (closed.Whole ending) = Ok ending
ending_of (closed.Differ difference) = Err (faults.Differs difference.path difference.at)
ending_of closed.NoMemory = Err faults.NoMemory
