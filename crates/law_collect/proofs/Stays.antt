-- What an answer leaves as it was.
use Rattle.std.proofs.Common.{ℕ, ◌≡◌, ◌≤◌, Some, None, refl, ap, arith}
use Rattle.std.specs.Prelude.{ℤ, pos, negsuc, unwrap_or}
use Rattle.dcp_collect.specs.declared.taken.Taken.{Taken}
use Rattle.dcp_collect.specs.declared.taken.Taken.TheVariants.{Kept, Repeated, Late, Refused, Inconsistent}
use Rattle.dcp_collect.specs.Reading.{Incoming, DatagramContent, Unread, Brings}
use Rattle.dcp_collect.specs.CollectorState.{CollectorState, answer, number_of, kept_at, after_answer, after_take}
use Rattle.dcp_collect.specs.Numbers.{end_of}
use Rattle.law_collect.proofs.Reached.{end_more}

-- P holds after an answer where it held before, and where it holds with the fragment kept
pub after_by : (P : CollectorState → Type 0) (c : CollectorState) (n : ℤ) (incoming : Incoming) (a : Taken)
    → P c → ((m : ℕ) → P (kept_at c (pos m) incoming)) → P (after_answer c n incoming a)
after_by P c (pos n) incoming Kept same kept = kept n
after_by P c (negsuc n) incoming Kept same kept = same
after_by P c n incoming Repeated same kept = same
after_by P c n incoming Late same kept = same
after_by P c n incoming (Refused field) same kept = same
after_by P c n incoming (Inconsistent f head) same kept = same

pub next_stays : (c : CollectorState) (n : ℤ) (incoming : Incoming) (a : Taken) → (after_answer c n incoming a).next ≡ c.next
next_stays c n incoming a = after_by (λ d. d.next ≡ c.next) c n incoming a refl (λ m. refl)

pub end_stays : (c : CollectorState) (n : ℤ) (incoming : Incoming) (a : Taken) → (after_answer c n incoming a).end ≡ c.end
end_stays c n incoming a = after_by (λ d. d.end ≡ c.end) c n incoming a refl (λ m. refl)

pub reach_stays : (c : CollectorState) (n : ℤ) (incoming : Incoming) (a : Taken) → (after_answer c n incoming a).reach ≡ c.reach
reach_stays c n incoming a = after_by (λ d. d.reach ≡ c.reach) c n incoming a refl (λ m. refl)

pub first_stays : (c : CollectorState) (n : ℤ) (incoming : Incoming) (a : Taken) (first : ℕ) → c.first ≡ Some first → (after_answer c n incoming a).first ≡ Some first
first_stays c n incoming a first e =
    after_by (λ d. d.first ≡ Some first) c n incoming a e (λ m. ap (λ o. Some (unwrap_or o incoming.sequence)) e)

-- the next number stays no more than one past the newest
pub below_after : (c : CollectorState) (n : ℤ) (incoming : Incoming) (a : Taken) → c.next ≤ end_of None c.newest
    → (after_answer c n incoming a).next ≤ end_of None (after_answer c n incoming a).newest
below_after c n incoming a b =
    after_by (λ d. d.next ≤ end_of None d.newest) c n incoming a b (λ m. omega (arith, b, end_more c.newest m))

-- where no sequence number is known yet, there is no newest number
pub fresh_after : (c : CollectorState) (n : ℤ) (incoming : Incoming) (a : Taken) → (c.first ≡ None → c.newest ≡ None)
    → (after_answer c n incoming a).first ≡ None → (after_answer c n incoming a).newest ≡ None
fresh_after c n incoming a f =
    after_by (λ d. d.first ≡ None → d.newest ≡ None) c n incoming a f
    (λ m e. absurd (let x : Some (unwrap_or c.first incoming.sequence) ≡ None = e in cc))

-- `take` gives nothing
pub take_next : (c : CollectorState) (read : DatagramContent) → (after_take c read).next ≡ c.next
take_next c (Unread field) = refl
take_next c (Brings incoming) = next_stays c (number_of c incoming) incoming (answer c (Brings incoming))

-- and the end
pub take_end : (c : CollectorState) (read : DatagramContent) → (after_take c read).end ≡ c.end
take_end c (Unread field) = refl
take_end c (Brings incoming) = end_stays c (number_of c incoming) incoming (answer c (Brings incoming))

-- and the reach
pub take_reach : (c : CollectorState) (read : DatagramContent) → (after_take c read).reach ≡ c.reach
take_reach c (Unread field) = refl
take_reach c (Brings incoming) = reach_stays c (number_of c incoming) incoming (answer c (Brings incoming))
