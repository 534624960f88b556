-- What a path heard of a link that was opened is what stood ahead of it.
use Rattle.std.proofs.Common.{◌≡◌, ℕ, ◌*◌, ◌≤◌, ◌^◌, inl, inr, List, Some, arith, le_trans}
use Rattle.std.proofs.Math.Nat.{mul-le-mul_right}
use Rattle.drm_links.specs.Known.{Known}
use Rattle.drm_links.specs.Link.{Traffic}
use Rattle.drm_links.specs.Dock.{LinkStart, first_traffic}
use Rattle.drm_links.proofs.Hearing.{heard_next}
use Rattle.cli_paths.specs.declared.request.PathsRequest.{PathsRequest}
use Rattle.drm_paths.specs.declared.run.PathEnded.{PathEnded}
use Rattle.drm_paths.specs.Reading.{most_answers}
use Rattle.cmd_paths.specs.Ahead.{IsReadByPath, IsAllOf}
use Rattle.cmd_paths.specs.Run.{options_in, IsPathsRequestInRange}
use Rattle.cmd_paths.specs.Links.{ReadsLink, ReadsWhole}

pub few_answers : (request : PathsRequest) → IsPathsRequestInRange request → most_answers (options_in request) ≤ 2 ^ 62
few_answers request range =
    let l : request.limit ≤ 1000000 = range.options.few in
    let i : request.idle ≤ 1000000 = range.few_idles in
    let m : request.limit * request.idle ≤ 1000000 * request.idle = mul-le-mul_right request.idle l in
    omega (arith, m, i)

module _ (request : PathsRequest) (range : IsPathsRequestInRange request) (start : LinkStart) (link : Known Traffic) (new : link.contents ≡ Some (first_traffic start)) (taken : List (List ℕ)) where
  pub read_ahead : (why : PathEnded) → ReadsLink (options_in request) link taken why → IsReadByPath (options_in request) start.ahead taken why
  read_ahead why (after, reads) =
      let (rest, next) = heard_next link.contents after.contents start reads.answers reads.heard new (le_trans reads.few (few_answers request range)) in
      record { answers = reads.answers; rest = rest; next = next; ends = reads.ends }

  pub whole_ahead : ReadsWhole (options_in request) link taken → IsAllOf (options_in request) start.ahead taken
  whole_ahead (inl reads) = inl (read_ahead _ reads)
  whole_ahead (inr reads) = inr (read_ahead _ reads)
