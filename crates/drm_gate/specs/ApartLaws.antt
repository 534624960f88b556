-- What links tell that are lent apart, with more events behind: the laws of the relation, which its trait asks for.
use Rattle.std.proofs.Common.{ℕ, nat_eq, Bool, List, [], ◌∷◌, ◌++◌, map, get_or, refl, sym, ◌∙◌, ap, subst, arith}
use Rattle.std.proofs.lemmas.List.{map-append}
use Rattle.drm_links.specs.Known.{Known}
use Rattle.drm_links.specs.Link.{Answer, Traffic}
use Rattle.drm_links.specs.declared.member.Member.{Member}
use Rattle.drm_links.specs.Hearing.{LinkHeard}
use Rattle.drm_links.specs.History.{GroupEvent, Received, SentTo, RestedAt, failed_in, risen}
use Rattle.drm_links.specs.Alone.{answers_in}
use Rattle.drm_links.specs.MemoryGroup.{up_by}
use Rattle.drm_links.proofs.AloneLemmas.{answers_then}
use Rattle.drm_links.proofs.CallLemmas.{match_map, risen_more, failed_then}
use Rattle.drm_links.proofs.Hearing.{heard_none, heard_then}
use Rattle.drm_gate.specs.Apart.{SourceTells, LinkTells, LinksTell}

source_then : (xs ys : List GroupEvent) (a b c : Known Traffic) → SourceTells xs a b → SourceTells ys b c → SourceTells (xs ++ ys) a c
source_then xs ys a b c first second = record {
  heard = subst (λ (l : List Answer). LinkHeard a c l) (sym (answers_then xs ys)) (heard_then a b c (answers_in xs) (answers_in ys) first.heard second.heard);
  faults =
      second.faults
      ∙ (ap (λ (f : ℕ). risen (failed_in (map Received (answers_in ys))) f) first.faults
      ∙ (risen_more (failed_in (map Received (answers_in xs))) (failed_in (map Received (answers_in ys))) a.faults
      ∙ ap (λ (n : ℕ). risen n a.faults)
      (sym (failed_then (map Received (answers_in xs)) (map Received (answers_in ys)))
      ∙ sym (ap (λ (l : List Answer). failed_in (map Received l)) (answers_then xs ys) ∙ ap failed_in (map-append Received (answers_in xs) (answers_in ys))))));
}

link_then : (k : ℕ) (xs ys : List GroupEvent) (b c d : Bool) (p q r : Known Traffic) → LinkTells k xs b c p q → LinkTells k ys c d q r → LinkTells k (xs ++ ys) b d p r
link_then k [] ys b c d p q r first second =
    subst (λ (up : Bool). LinkTells k ys up d p r) first.0 (subst (λ (known : Known Traffic). LinkTells k ys c d known r) first.1 second)
link_then k (Received answer ∷ xs) ys b c d p q r first second = link_then k xs ys b c d p q r first second
link_then k (SentTo j bytes answer ∷ xs) ys b c d p q r first second =
    match_map (nat_eq j k)
    (λ own. (own.0, own.1, own.2, link_then k xs ys (up_by b answer) c d own.1 q r own.3 second))
    (λ other. link_then k xs ys b c d p q r other second)
    first
link_then k (RestedAt j millis ∷ xs) ys b c d p q r first second = absurd first

pub apart_none : {K : Type 0} (a : Known Traffic) (known : K → Known Traffic) (to : List (Member K)) → LinksTell a a known to to []
apart_none a known to = record { source = record { heard = heard_none a; faults = refl }; as_many = refl; each = λ k none within. (refl, refl) }

pub apart_then : {K : Type 0} (xs ys : List GroupEvent) (a b c : Known Traffic) (known : K → Known Traffic) (l m n : List (Member K)) → LinksTell a b known l m xs → LinksTell b c known m n ys → LinksTell a c known l n (xs ++ ys)
apart_then xs ys a b c known l m n first second = record {
  source = source_then xs ys a b c first.source second.source;
  as_many = second.as_many ∙ first.as_many;
  each = λ k none within.
      link_then k xs ys (get_or l k none).up (get_or m k none).up (get_or n k none).up (known (get_or l k none).link) (known (get_or m k none).link) (known (get_or n k none).link)
      (first.each k none within) (second.each k none (let e = first.as_many in omega (arith, within, e)));
}
