-- What becomes of an item.
use Rattle.std.proofs.Common.{◌≡◌, ℕ, ◌+◌, Bool, true, false, List, [], length, sym, subst, ap, ◌∙◌, refl, inl, ◌&&◌}
use Rattle.std.proofs.Math.Bool.{and-true, and-false}
use Rattle.recv_reading.proofs.Common.{Known, Output, OutputsText, IsPrefix, CollectorItem, Packet}
use Rattle.drm_links.proofs.KnownLemmas.{OutputsText-nothing}
use Rattle.dcp_pft.specs.declared.carry.Carry.{Carry}
use Rattle.cmd_convert.specs.declared.naming.Progress.{Progress}
use Rattle.dcp_sender.specs.CarriesText.{CarriesText, is_too_long}
use Rattle.dcp_sender.specs.Packets.{IsAny, sequence_of}
use Rattle.cmd_convert.specs.Converting.{ConvertsItem}
use Rattle.cmd_convert.specs.Naming.{NamesItems}
use Rattle.cmd_convert.specs.Steps.{ItemConverted, ItemWriteFails, has_none}

-- nothing was named
pub names_none : (err_ok : Bool) (err : Known Output) → NamesItems err_ok err_ok err err []
names_none err_ok err = record {
  held = λ is. is;
  whole = λ is. OutputsText-nothing err (λ text. text ≡ []) refl;
  front = OutputsText-nothing err (IsPrefix []) ([], refl);
  still = λ is. refl;
  same = λ is. refl;
  once = λ yes no. let clash : true ≡ false = sym yes ∙ no in absurd cc;
}

-- an item that is named
pub named : (carry : Carry) (first : ℕ) (item : CollectorItem) (line : List ℕ) (p p' : Progress) (out err err' : Known Output)
    → ConvertsItem carry first item (record { out = []; line = line }) → p'.given ≡ p.given + 1 → p'.clean ≡ false → NamesItems p.err_ok p'.err_ok err err' line → has_none line ≡ false
    → ItemConverted carry first item p p' out out err err'
named carry first item line p p' out err err' converts given clean names some = record {
  part = record { out = []; line = line };
  converts = converts;
  given = given;
  clean = clean ∙ (sym (and-false p.clean) ∙ ap (λ b. p.clean && b) (sym some));
  text = OutputsText-nothing out (λ text. text ≡ []) refl;
  names = names;
}

carried_at : (carry : Carry) (first index seq : ℕ) (bytes text : List ℕ) → seq ≡ sequence_of first index → CarriesText carry seq bytes text → CarriesText carry (sequence_of first index) bytes text
carried_at carry first index seq bytes text is carried =
    let P : ℕ → Type 0 = λ n. CarriesText carry n bytes text in
    subst P is carried

-- a packet that is written
pub written : (carry : Carry) (first index seq : ℕ) (bytes text : List ℕ) (p p' : Progress) (out out' err : Known Output)
    → IsAny bytes → is_too_long carry (length bytes) ≡ false → seq ≡ sequence_of first index → CarriesText carry seq bytes text → OutputsText out out' (λ t. t ≡ text)
    → p'.given ≡ p.given + 1 → p'.clean ≡ p.clean → p'.err_ok ≡ p.err_ok → ItemConverted carry first (Packet index bytes) p p' out out' err err
written carry first index seq bytes text p p' out out' err any short is carried wrote given clean err_ok =
    let P : Bool → Type 0 = λ b. NamesItems p.err_ok b err err [] in
    record {
      part = record { out = text; line = [] };
      converts = inl (any, short, carried_at carry first index seq bytes text is carried, refl);
      given = given;
      clean = clean ∙ sym (and-true p.clean);
      text = wrote;
      names = subst P (sym err_ok) (names_none p.err_ok err);
    }

-- one whose write failed
pub failing : (carry : Carry) (first index seq : ℕ) (bytes text : List ℕ) (out out' : Known Output)
    → IsAny bytes → is_too_long carry (length bytes) ≡ false → seq ≡ sequence_of first index → CarriesText carry seq bytes text → OutputsText out out' (IsPrefix text)
    → ItemWriteFails carry first (Packet index bytes) out out'
failing carry first index seq bytes text out out' any short is carried wrote = record {
  part = record { out = text; line = [] };
  converts = inl (any, short, carried_at carry first index seq bytes text is carried, refl);
  none = refl;
  text = wrote;
}
