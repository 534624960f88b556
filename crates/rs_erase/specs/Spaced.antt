-- Patterns whose erased places stand at the same distance from one another.
use Rattle.std.specs.Prelude.{ℕ, ◌≡◌, ◌+◌, ◌-◌, ◌*◌, ◌/◌, ◌%◌, ◌<◌, ◌≤◌, zero, suc, List, length, take, bit_xor, slice_index}
use Rattle.gf_field.specs.Field.{power, times}
use Rattle.rs_erase.specs.Code.{AgreesOutside, ArePlaces, IsCodeWord}
use Rattle.rs_erase.specs.Equations.{locators_of}
use Rattle.rs_erase.specs.Prepared.{AreWeights, sums_product}
use Rattle.rs_erase.specs.Zech.{AreRunningSums}
use Rattle.rs_erase.specs.declared.zech_logarithms.TheConstants.{ZECH_LOGARITHMS}

-- the i-th element of the r-th row of 16 is 1 divided by the sum of 1 and 2 to the r - distance * i
abbrev pub IsSpacing : ℕ → List ℕ → Type 0
IsSpacing distance table =
    (r i : ℕ) → r < 255 → i < 16 → distance * i < r
    → times (slice_index table (16 * r + i)) (bit_xor (power (r - distance * i)) 1) ≡ 1

-- each of the first rows of the table has 16 bytes: row r has at place i the quotient at r - distance * i
abbrev pub HasRows : ℕ → List ℕ → List ℕ → ℕ → Type 0
HasRows distance quotients table rows =
    (r i : ℕ) → r < rows → i < 16 → distance * i < r → slice_index table (16 * r + i) ≡ slice_index quotients (r - distance * i)

-- what is prepared for a distance
pub record IsPreparedSpacing (distance : ℕ) (table running : List ℕ) : Type 0 where
  pub small : distance < 256
  pub spacing : IsSpacing distance table
  pub sums : AreRunningSums ZECH_LOGARITHMS distance running

-- the sum of the first n symbols, each times the i-th element of its row: the first one's is the r-th, and so on
unfoldable pub spaced_sum : List ℕ → List ℕ → ℕ → ℕ → ℕ → ℕ
spaced_sum table symbols r i zero = 0
spaced_sum table symbols r i (suc n) =
    bit_xor (spaced_sum table symbols r i n) (times (slice_index symbols n) (slice_index table (16 * (r + n) + i)))

-- what is seen of a pattern: its erased places, and a distance between those of the message
pub record SpacedPlaces : Type 0 where
  pub places : List ℕ
  pub distance : ℕ

-- A lane of a place: it is so many steps behind the start of a run of sixteen.
pub record IsLane (starts : List ℕ) (runs distance place lane : ℕ) : Type 0 where
  pub small : lane < 208
  pub run : lane / 16 < runs
  pub there : slice_index starts (lane / 16) + distance * (lane % 16) ≡ place

-- each place of the message has a lane
abbrev pub AreLanes : List ℕ → ℕ → ℕ → List ℕ → List ℕ → Type 0
AreLanes starts runs distance places lanes = (j : ℕ) → j < length places → IsLane starts runs distance (slice_index places j) (slice_index lanes j)

-- each symbol of a parity is multiplied by the sums of its locator and those of the places
abbrev pub AreFactors : List ℕ → List ℕ → Type 0
AreFactors xs factors = (p : ℕ) → p < 48 → slice_index factors p ≡ sums_product (power (47 - p)) xs

-- so many of the places are the message's
pub record AreInMessage (places : List ℕ) (message : ℕ) : Type 0 where
  pub few : message ≤ length places
  pub before : (j : ℕ) → j < message → slice_index places j < 207
  pub behind : (j : ℕ) → message ≤ j → j < length places → 207 ≤ slice_index places j

-- the message of the new word is that of each code word that agrees with the old one outside these places
abbrev pub HasMessage : List ℕ → List ℕ → List ℕ → Type 0
HasMessage places old new =
    (word : List ℕ) → IsCodeWord word → AgreesOutside places old word → (q : ℕ) → q < 207 → slice_index new q ≡ slice_index word q

-- what is prepared for such places
pub record IsSpaced (distance count message : ℕ) (places factors weights starts : List ℕ) (used : ℕ) (lanes : List ℕ) : Type 0 where
  pub few : count ≤ 48
  pub long : length places ≡ count
  pub are_places : ArePlaces places
  pub in_message : AreInMessage places message
  pub have_factors : AreFactors (locators_of places) factors
  pub have_weights : AreWeights (locators_of places) weights
  pub have_lanes : AreLanes starts used distance (take message places) lanes
