-- What a conversion has done with the items that were given.
use Rattle.std.specs.Prelude.{ℕ, ◌≡◌, ◌+◌, Bool, List, length, Result, ◌&&◌}
use Rattle.std.specs.List.{list_all}
use Rattle.dcp_pft.specs.declared.carry.Carry.{Carry}
use Rattle.dcp_collect.specs.CollectorState.{CollectorState}
use Rattle.dcp_collect.specs.Runs.{CollectorItem, IsItem}
use Rattle.drm_links.specs.Known.{Known}
use Rattle.drm_links.specs.Sink.{Output, OutputsText}
use Rattle.recv_reading.specs.First.{MayBeFirst, first_of}
use Rattle.cmd_convert.specs.declared.item.ItemError.{ItemError}
use Rattle.cmd_convert.specs.declared.naming.Progress.{Progress}
use Rattle.cmd_convert.specs.Converting.{ItemOutput, ConvertsAll, text_of, lines_of}
use Rattle.cmd_convert.specs.Naming.{NamesItems}
use Rattle.cmd_convert.specs.Steps.{has_none, ConvertsOne}

-- no line names any of them
abbrev pub are_clean : List ItemOutput → Bool
are_clean parts = list_all (λ part. has_none part.line) parts

-- These items were converted, one after another, from here on.
pub record ConvertedAll (carry : Carry) (c : CollectorState) (items : List CollectorItem) (p p' : Progress) (out out' err err' : Known Output) : Type 0 where
  pub parts : List ItemOutput
  pub converts : (first : ℕ) → MayBeFirst c first → ConvertsAll carry first items parts
  pub given : p'.given ≡ p.given + length items
  pub clean : p'.clean ≡ (p.clean && are_clean parts)
  pub text : OutputsText out out' (λ text. text ≡ text_of parts)
  pub names : NamesItems p.err_ok p'.err_ok err err' (lines_of parts)

-- The next item of a collector was converted, or it stopped at it.
pub record ConvertsNext (result : Result (Unit {0}) ItemError) (carry : Carry) (c : CollectorState) (p p' : Progress) (out out' err err' : Known Output) : Type 0 where
  pub item : CollectorItem
  pub is : IsItem c item
  pub one : ConvertsOne result carry (first_of c) item p p' out out' err err'
