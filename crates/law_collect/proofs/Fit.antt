-- What a collector keeps is bytes, where the datagrams are.
use Rattle.std.proofs.Common.{ℕ, ◌+◌, inl, inr, Bool, true, false, if◌then◌else◌, not, eqb, List, [], ◌∷◌, ◌++◌, drop, length, sym, ap, subst}
use Rattle.std.specs.Int.{w16, to_be_bytes}
use Rattle.std.proofs.lemmas.List.{get_or-drop}
use Rattle.std.proofs.Math.Seq.{drop-append_seam}
use Rattle.drm_bits.specs.Bits.{IsBytes}
use Rattle.dcp_pft.specs.Head.{head}
use Rattle.dcp_collect.specs.declared.taken.Taken.{Taken}
use Rattle.dcp_collect.specs.Reading.{Incoming, DatagramContent, Unread, Brings, IsIncoming, IsReadAs}
use Rattle.dcp_collect.specs.CollectorState.{CollectorState, number_of, answer, after_take, ready, after_item, after_next}
use Rattle.dcp_collect.specs.Runs.{CollectorItem, CollectorTakes, CollectorGives}
use Rattle.dcp_collect.proofs.Lists.{all_insert}
use Rattle.law_collect.specs.Laws.{CollectorInvariant}
use Rattle.law_collect.proofs.Stays.{after_by}
use Rattle.law_collect.proofs.Ending.{bytes_filter}

bytes_drop : (n : ℕ) (bytes : List ℕ) → IsBytes bytes → IsBytes (drop n bytes)
bytes_drop n bytes h i = rw get_or-drop (h (n + i))

bytes_behind : (front rest : List ℕ) → IsBytes (front ++ rest) → IsBytes rest
bytes_behind front rest h = subst IsBytes (drop-append_seam front rest) (bytes_drop (length front) (front ++ rest) h)

-- what a datagram brings is bytes
payload_bytes : (incoming : Incoming) (bytes : List ℕ) → IsBytes bytes → IsIncoming incoming bytes → IsBytes incoming.payload
payload_bytes incoming bytes are (inl (af, is, few, same)) = subst IsBytes (sym (ap (λ (i : Incoming). i.payload) same)) are
payload_bytes incoming bytes are (inr (f, is, same)) =
    subst IsBytes (sym (ap (λ (i : Incoming). i.payload) same))
    (bytes_behind (head f ++ to_be_bytes w16 is.spells.check) f.payload
    (subst IsBytes (is.spells.spelled) are))

pub fit_after : (c : CollectorState) (incoming : Incoming) → CollectorInvariant c → IsBytes incoming.payload → CollectorInvariant (after_take c (Brings incoming))
fit_after c incoming fit bytes =
    after_by CollectorInvariant c (number_of c incoming) incoming (answer c (Brings incoming)) fit
    (λ m. (
      fit.0,
      all_insert (λ f. IsBytes f.payload) (record { number = m; head = incoming.head; payload = incoming.payload }) c.kept bytes fit.1,
    ))

fit_read : (c : CollectorState) (read : DatagramContent) (bytes : List ℕ) → IsBytes bytes → IsReadAs read bytes → CollectorInvariant c → CollectorInvariant (after_take c read)
fit_read c (Unread field) bytes are is fit = fit
fit_read c (Brings incoming) bytes are is fit = fit_after c incoming fit (payload_bytes incoming bytes are is)

-- after a datagram
pub fit_taken : (c d : CollectorState) (bytes : List ℕ) (a : Taken) → IsBytes bytes → CollectorTakes c bytes a d → CollectorInvariant c → CollectorInvariant d
fit_taken c d bytes a are takes fit = subst CollectorInvariant (sym takes.after_is) (fit_read c takes.read bytes are takes.is_read fit)

fit_item : (c : CollectorState) → CollectorInvariant c → CollectorInvariant (after_item c)
fit_item c fit = (fit.0, bytes_filter (λ f. not (eqb f.number c.next)) c.kept fit.1)

fit_by : (b : Bool) (c : CollectorState) → CollectorInvariant c → CollectorInvariant (if b then after_item c else c)
fit_by true c fit = fit_item c fit
fit_by false c fit = fit

pub fit_next : (c : CollectorState) → CollectorInvariant c → CollectorInvariant (after_next c)
fit_next c fit = fit_by (ready c) c fit

-- after all that were ready
pub fit_given : (items : List CollectorItem) (c d : CollectorState) → CollectorGives c items d → CollectorInvariant c → CollectorInvariant d
fit_given [] c d gives fit = subst CollectorInvariant (sym gives.1) fit
fit_given (item ∷ items) c d gives fit = fit_given items (after_item c) d gives.2 (fit_item c fit)
