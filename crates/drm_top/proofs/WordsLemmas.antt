-- The request that was read is the one that was asked for.
use Rattle.std.proofs.Common.{◌≡◌, ◌⊎◌, inl, inr, Result, Ok, Err}
use Rattle.cli_syntax.specs.declared.fault.WordsFault.{WordsFault}
use Rattle.cli_syntax.specs.declared.fault.WordsFault.TheVariants as faults
use Rattle.drm_words.specs.declared.request.Request.{Request}

pub request_read : (read asked : Request) → (let outcome : Result Request WordsFault = Ok read in (outcome ≡ Ok asked) ⊎ (outcome ≡ Err faults.NoMemory)) → read ≡ asked
request_read read asked (inl is) = cc
request_read read asked (inr is) = cc
