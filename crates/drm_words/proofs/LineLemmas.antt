-- The request that is read of words is the one that fits them.
use Rattle.std.proofs.Common.{◌≡◌, ◌⊎◌, inl, inr, ℕ, List, [], ◌∷◌, Some, Result, Ok, Err, refl, ap, sym, ◌∙◌, subst}
use Rattle.std.specs.Prelude.{IfOk}
use Rattle.std.proofs.lemmas.Option.{same_Some}
use Rattle.drm_words.specs.declared.request.Request.{Request}
use Rattle.cli_syntax.specs.declared.fault.WordsFault.{WordsFault}
use Rattle.cli_syntax.specs.declared.fault.WordsFault.TheVariants.{Words, NoMemory}
use Rattle.drm_words.specs.Table.{IsRequest}
use Rattle.cli_syntax.specs.Arguing.{SortedWords, read}
use Rattle.drm_words.specs.Asking.{request_of}
use Rattle.drm_words.specs.Line.{IsLine}
use Rattle.drm_words.specs.Whole.{line_of}
use Rattle.cli_syntax.specs.Gives.{ParserGives}
use Rattle.cli_syntax.proofs.OptionLemmas.{stepped}
use Rattle.cli_syntax.proofs.SpellingLemmas.{read_fits, read_is}
use Rattle.drm_words.proofs.TableLemmas.{request_fits, request_is}

pub line_fits : (words : List (List ℕ)) (r : Request) → line_of words ≡ Some r → IsLine words r
line_fits [] r e = absurd cc
line_fits (command ∷ behind) r e =
    let p = stepped (read behind) (λ sorted. request_of command sorted.texts sorted.options) r e in
    let q = read_fits behind p.value p.is in
    let is : request_of command p.value.texts p.value.options ≡ Some r = p.rest in
    record {
      command = command;
      behind = behind;
      arguments = q.arguments;
      stands = refl;
      spelled = q.spells;
      asks = subst (λ (s : SortedWords). IsRequest r command s.texts s.options) (sym q.same) (request_fits command p.value.texts p.value.options r is);
    }

pub line_is : (words : List (List ℕ)) (r : Request) → IsLine words r → line_of words ≡ Some r
line_is words r h = rw h.stands (rw (read_is h.spelled) (request_is r h.command _ _ h.asks))

pub line_once : (words : List (List ℕ)) (r other : Request) → IsLine words r → IsLine words other → r ≡ other
line_once words r other h k = same_Some r other (sym (line_is words r h) ∙ line_is words other k)

-- what an answer that gives what is read says of the requests that fit
module _ (words : List (List ℕ)) where
  pub found : (result : Result Request WordsFault) → ParserGives result (line_of words) → IfOk result (λ r. IsLine words r)
  found (Ok r) h = line_fits words r h
  found (Err fault) h = tt

  pub only : (result : Result Request WordsFault) → ParserGives result (line_of words) → (r : Request) → IsLine words r → (result ≡ Ok r) ⊎ (result ≡ Err NoMemory)
  only (Ok x) h r k = inl (ap Ok (same_Some x r (sym h ∙ line_is words r k)))
  only (Err Words) h r k = absurd (let e = line_is words r k in cc)
  only (Err NoMemory) h r k = inr refl

  pub refused : (result : Result Request WordsFault) → ParserGives result (line_of words) → result ≡ Err Words → (r : Request) → IsLine words r → ⊥
  refused (Ok x) h e r k = cc
  refused (Err Words) h e r k = let f = line_is words r k in cc
  refused (Err NoMemory) h e r k = cc

  pub exact : (result : Result Request WordsFault) → ParserGives result (line_of words) → ((r : Request) → IsLine words r → ⊥) → (result ≡ Err Words) ⊎ (result ≡ Err NoMemory)
  exact (Ok x) h none = absurd (none x (line_fits words x h))
  exact (Err Words) h none = inl refl
  exact (Err NoMemory) h none = inr refl
