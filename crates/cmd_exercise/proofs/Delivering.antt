-- What of a packet is still to be delivered.
use Rattle.std.proofs.Common.{◌≡◌, ℕ, ◌+◌, ◌*◌, List, [], ◌∷◌, ◌++◌, true, false, refl, sym, ◌∙◌, ap}
use Rattle.std.specs.Prelude.{reverse}
use Rattle.std.specs.List.{flat_map, range_with_len}
use Rattle.plan_script.specs.declared.delivery.Delivery.{Delivery}
use Rattle.plan_script.specs.Script.{delivery, fragment_count}
use Rattle.drm_schedule.specs.declared.plan.Plan.{Plan}
use Rattle.drm_timeline.specs.Numbers.{packet_size}
use Rattle.dcp_pft.specs.Carrying.{datagram_count}
use Rattle.cmd_exercise.specs.Exercise.{is_left_out, twice_unless, of_packet, deliveries, plan}
use Rattle.cmd_exercise.proofs.Ranges.{forward_more, back_more}

abbrev pub at : ℕ → ℕ → ℕ → ℕ → List Delivery
at n packet count i = twice_unless (is_left_out n packet count i) (delivery packet i)

-- the first `left` fragments
abbrev pub left_of : ℕ → ℕ → ℕ → ℕ → List Delivery
left_of n packet count left = flat_map (at n packet count) (reverse (range_with_len 0 left))

-- what is delivered of the packets before this one
abbrev pub up_to : ℕ → ℕ → List Delivery
up_to n packet = flat_map (λ p. of_packet n p (fragment_count (plan n) p)) (range_with_len 0 packet)

pub whole : (n packet count : ℕ) → left_of n packet count count ≡ of_packet n packet count
unfolding of_packet
whole n packet count = refl

pub skipped : (n packet count left : ℕ) → is_left_out n packet count left ≡ true → left_of n packet count (left + 1) ≡ left_of n packet count left
skipped n packet count left is = back_more (at n packet count) left ∙ ap (λ b. twice_unless b (delivery packet left) ++ left_of n packet count left) is

pub taken : (n packet count left : ℕ) → is_left_out n packet count left ≡ false → left_of n packet count (left + 1) ≡ delivery packet left ∷ delivery packet left ∷ left_of n packet count left
taken n packet count left is = back_more (at n packet count) left ∙ ap (λ b. twice_unless b (delivery packet left) ++ left_of n packet count left) is

pub twice_behind : (before : List Delivery) (d : Delivery) (left : List Delivery) → ((before ++ d ∷ []) ++ d ∷ []) ++ left ≡ before ++ d ∷ d ∷ left
twice_behind [] d left = refl
twice_behind (b ∷ before) d left = ap (λ l. b ∷ l) (twice_behind before d left)

-- a packet more
pub packet_more : (n packet : ℕ) (before : List Delivery) (feed : List Delivery) → before ≡ up_to n packet → feed ≡ before ++ of_packet n packet (fragment_count (plan n) packet) → feed ≡ up_to n (packet + 1)
packet_more n packet before feed is more = more ∙ ap (λ l. l ++ of_packet n packet (fragment_count (plan n) packet)) is ∙ sym (forward_more (λ p. of_packet n p (fragment_count (plan n) p)) packet)

pub all_delivered : (n : ℕ) → up_to n (3 * n) ≡ deliveries n
unfolding deliveries
all_delivered n = refl

pub count_is : (plan : Plan) (packet count : ℕ) → count ≡ datagram_count plan.carry (packet_size plan packet) → count ≡ fragment_count plan packet
unfolding fragment_count
count_is plan packet count is = is
