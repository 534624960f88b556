-- What a conversion does with an item.
use Rattle.std.specs.Prelude.{ℕ, ◌≡◌, ◌+◌, Bool, true, false, List, [], Result, Ok, Err, ◌&&◌}
use Rattle.dcp_pft.specs.declared.carry.Carry.{Carry}
use Rattle.dcp_collect.specs.Runs.{CollectorItem, Packet}
use Rattle.drm_links.specs.Known.{Known}
use Rattle.drm_links.specs.Sink.{Output, OutputsText, IsPrefix}
use Rattle.cmd_convert.specs.declared.item.ItemError.{ItemError}
use Rattle.cmd_convert.specs.declared.item.ItemError.TheVariants as halt
use Rattle.cmd_convert.specs.declared.naming.Progress.{Progress}
use Rattle.cmd_convert.specs.Converting.{ItemOutput, ConvertsItem, IsTooLarge}
use Rattle.cmd_convert.specs.Naming.{NamesItems}

-- nothing names it
abbrev pub has_none : List ℕ → Bool
has_none [] = true
has_none line = false

-- One item was converted: written, or named.
pub record ItemConverted (carry : Carry) (first : ℕ) (item : CollectorItem) (p p' : Progress) (out out' err err' : Known Output) : Type 0 where
  pub part : ItemOutput
  pub converts : ConvertsItem carry first item part
  pub given : p'.given ≡ p.given + 1
  pub clean : p'.clean ≡ (p.clean && has_none part.line)
  pub text : OutputsText out out' (λ text. text ≡ part.out)
  pub names : NamesItems p.err_ok p'.err_ok err err' part.line

-- A write failed: nothing names the item, and a front of what is written of it went out.
pub record ItemWriteFails (carry : Carry) (first : ℕ) (item : CollectorItem) (out out' : Known Output) : Type 0 where
  pub part : ItemOutput
  pub converts : ConvertsItem carry first item part
  pub none : part.line ≡ []
  pub text : OutputsText out out' (IsPrefix part.out)

abbrev pub ConvertsOne : Result (Unit {0}) ItemError → Carry → ℕ → CollectorItem → Progress → Progress → Known Output → Known Output → Known Output → Known Output → Type 0
ConvertsOne (Ok _) carry first item p p' out out' err err' = ItemConverted carry first item p p' out out' err err'
ConvertsOne (Err halt.Write) carry first item p p' out out' err err' = ItemWriteFails carry first item out out' × (err' ≡ err) × (p' ≡ p)
ConvertsOne (Err (halt.PacketSize number)) carry first item p p' out out' err err' = IsTooLarge carry item number × (out' ≡ out) × (err' ≡ err) × (p' ≡ p)

abbrev pub ConvertsPacket : Result (Unit {0}) ItemError → Carry → ℕ → ℕ → List ℕ → Progress → Progress → Known Output → Known Output → Known Output → Known Output → Type 0
ConvertsPacket result carry first index bytes p p' out out' err err' = ConvertsOne result carry first (Packet index bytes) p p' out out' err err'
