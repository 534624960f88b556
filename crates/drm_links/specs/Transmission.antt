-- What was sent over a link in several calls.
use Rattle.std.specs.Prelude.{ℕ, ◌≡◌, ◌-◌, ◌<◌, ◌≤◌, List, ◌++◌, length, Option, None, Some}
use Rattle.drm_links.specs.Link.{Traffic, KeepsAnswers}

-- how many sends are left after so many that were taken
abbrev pub fewer : Option ℕ → ℕ → Option ℕ
fewer None n = None
fewer (Some k) n = Some (k - n)

-- a link takes so many sends
abbrev pub TakesSends : Option ℕ → ℕ → Type 0
TakesSends None n = Unit {0}
TakesSends (Some k) n = n ≤ k

-- a link takes fewer sends than so many
abbrev pub TakesFewer : Option ℕ → ℕ → Type 0
TakesFewer None n = ⊥
TakesFewer (Some k) n = k < n

-- These datagrams were sent, one after another. What came, and what is ahead, is as before.
pub record SendsAll (datagrams : List (List ℕ)) (before after : Traffic) : Type 0 where
  pub taken : TakesSends before.sends (length datagrams)
  pub gone : after.gone ≡ before.gone ++ datagrams
  pub sends : after.sends ≡ fewer before.sends (length datagrams)
  pub kept : KeepsAnswers before after

-- These were sent, and then the link took no more.
pub record SendsNoMore (datagrams : List (List ℕ)) (before after : Traffic) : Type 0 where
  pub no_more : before.sends ≡ Some (length datagrams)
  pub gone : after.gone ≡ before.gone ++ datagrams
  pub kept : KeepsAnswers before after
