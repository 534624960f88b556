-- What the words of a request say of its numbers.
use Rattle.std.proofs.Common.{ℕ, ◌≤◌, List, Option, None, Some, IfSome, codes, subst, sym, arith}
use Rattle.cli_paths.specs.declared.request.PathsRequest.{PathsRequest}
use Rattle.cli_paths.specs.Line.{IsPathsLine}
use Rattle.cli_paths.specs.CommandTexts.{value_of}
use Rattle.cli_paths.specs.Table.{IsNumberOr, IsNumberOrNone}
use Rattle.cli_syntax.specs.Spelling.{options}
use Rattle.cmd_paths.specs.Run.{IsPathsRequestInRange}

number_range : (default least greatest : ℕ) → least ≤ default → default ≤ greatest → (value : Option (List ℕ)) (n : ℕ) → IsNumberOr default least greatest value n → (least ≤ n) × (n ≤ greatest)
number_range default least greatest low high None n is = (omega (arith, low, is), omega (arith, high, is))
number_range default least greatest low high (Some text) n is = (is.1, is.2)

some_range : (least greatest : ℕ) (value : Option (List ℕ)) (n : Option ℕ) → IsNumberOrNone least greatest value n → IfSome n (λ m. (least ≤ m) × (m ≤ greatest))
some_range least greatest None n is = subst (λ o. IfSome o (λ m. (least ≤ m) × (m ≤ greatest))) (sym is) tt
some_range least greatest (Some text) n (m, is, within) = subst (λ o. IfSome o (λ m. (least ≤ m) × (m ≤ greatest))) (sym is) (within.1, within.2)

-- a request is in its range
pub in_range : (words : List (List ℕ)) (request : PathsRequest) → IsPathsLine words request → IsPathsRequestInRange request
in_range words request line =
    let asks = line.asks in
    let window = number_range 8 1 64 (omega arith) (omega arith) (value_of (codes "window") (options line.arguments)) request.window asks.window in
    let frames = some_range 1 3000000 (value_of (codes "frames") (options line.arguments)) request.frames asks.frames in
    let idle = number_range 50 1 1000000 (omega arith) (omega arith) (value_of (codes "idle") (options line.arguments)) request.idle asks.idle in
    let limit = number_range 1000000 1 1000000 (omega arith) (omega arith) (value_of (codes "limit") (options line.arguments)) request.limit asks.limit in
    record {
      journal = (window.0, window.1, frames);
      options = record { idle = idle.0; limit = limit.0; few = limit.1 };
      few_idles = idle.1;
      some_paths = asks.some_paths;
      few_paths = asks.few_paths;
      different = asks.addresses.different;
    }
