-- What is written is what some packets become, whatever was read.
use Rattle.std.proofs.Common.{ℕ, ◌≡◌, Bool, List, [], ◌∷◌, ◌++◌, refl, sym, subst, ◌∙◌, Result, Ok, Err}
use Rattle.std.proofs.lemmas.List.{append-nil}
use Rattle.dcp_pft.specs.declared.carry.Carry.{Carry}
use Rattle.recv_reading.proofs.Common.{CollectorItem, Known, Input, Output, OutputsText, IsPrefixBehind, first_of}
use Rattle.drm_links.proofs.KnownLemmas.{OutputsText-nothing, OutputsText-weaker}
use Rattle.capture_reader.specs.declared.packets.CaptureStop.{CaptureStop}
use Rattle.capture_reader.specs.declared.packets.CaptureStop.TheVariants as stops
use Rattle.cmd_faults.specs.declared.fault.Fault.{Fault}
use Rattle.cmd_faults.proofs.CaptureLemmas.{each_early}
use Rattle.recv_reading.specs.declared.options.PacketRange.{PacketRange}
use Rattle.cmd_convert.specs.Converting.{ItemOutput, ConvertsAll, text_of}
use Rattle.cmd_convert.specs.Converted.{are_clean}
use Rattle.cmd_convert.specs.Run.{IsConversion, ConversionEndsEarly, ConvertEnds, CanEndConversion, IsPrefixOfParts, ConvertIsSound}
use Rattle.cmd_convert.proofs.PartLemmas.{front_of_all}

all_in_front : (carry : Carry) (first : ℕ) (items : List CollectorItem) (parts : List ItemOutput) (a b : Known Output) → ConvertsAll carry first items parts → OutputsText a b (λ t. t ≡ text_of parts) → OutputsText a b (IsPrefixOfParts carry)
all_in_front carry first items parts a b are out =
    OutputsText-weaker (λ t. t ≡ text_of parts) (IsPrefixOfParts carry) a b out (λ t e. (first, items, parts, are, ([], sym e ∙ sym (append-nil t))))

module _ (range : PacketRange) (carry : Carry) (err_ok : Bool) (before after : Known Input) (a b x y : Known Output) where
  early : (stop : CaptureStop) → ConversionEndsEarly range carry stop err_ok before after a b x y → OutputsText a b (IsPrefixOfParts carry)
  early stop (packets, whole, stops, enough, shorter, parts, is, out, names) = all_in_front carry (first_of is.mid) is.items parts a b is.converts out

  pub sound : (ending : Result Bool Fault) → ((fault : Fault) → ending ≡ Err fault → CanEndConversion fault) → ConvertEnds range carry ending err_ok before after a b x y → ConvertIsSound range carry ending a b
  sound (Ok clean) kind (packets, enough, shorter, parts, is, out, names, clean_is) =
      OutputsText-weaker (λ t. t ≡ text_of parts) (λ t. (packets : List (List ℕ)) × (parts : List ItemOutput) × IsConversion range carry packets parts × (t ≡ text_of parts) × (clean ≡ are_clean parts)) a b out
      (λ t e. (packets, parts, is, e, clean_is))
  sound (Err fault) kind ends =
      each_early (Unit {0}) (λ f. ConvertEnds range carry (Err f) err_ok before after a b x y → OutputsText a b (IsPrefixOfParts carry))
      (λ (same, none, none'). subst (λ (k : Known Output). OutputsText a k (IsPrefixOfParts carry)) (sym none) (OutputsText-nothing a (IsPrefixOfParts carry) (0, [], [], tt, ([], refl))))
      (λ wrong ends. early (stops.Capture wrong) ends) (λ ends. early stops.TooLong ends) (λ ends. early stops.Read ends)
      (λ (items, item, last, reads, parts, part, are, out, names).
      OutputsText-weaker (IsPrefixBehind (text_of parts) part.out) (IsPrefixOfParts carry) a b out (λ t e. (first_of last, items ++ item ∷ [], parts ++ part ∷ [], are, front_of_all parts part t e)))
      (λ yes number (items, item, last, reads, large, parts, are, out, names). all_in_front carry (first_of last) items parts a b are out) fault (kind fault refl) ends
