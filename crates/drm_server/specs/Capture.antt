-- What is written of a schedule: the datagrams of the frames that are sent, one after another.
use Rattle.std.specs.Prelude.{ℕ, ◌≡◌, List, ◌++◌, length}
use Rattle.std.specs.List.{concat}
use Rattle.drm_schedule.specs.declared.plan.Plan.{Plan}
use Rattle.drm_links.specs.Sink.{IsPrefix}
use Rattle.drm_server.specs.declared.stretch.Stretch.{Stretch}
use Rattle.drm_server.specs.Datagrams.{AreDatagrams, AreBefore}

-- all of them
abbrev pub IsCapture : Plan → Stretch → List ℕ → Type 0
IsCapture plan stretch bytes = (datagrams : List (List ℕ)) × AreDatagrams plan stretch datagrams × (bytes ≡ concat datagrams)

-- some first ones of them, and a front of the next one
abbrev pub IsPrefixOfCapture : Plan → Stretch → List ℕ → Type 0
IsPrefixOfCapture plan stretch text =
    (next : List ℕ) × (datagrams : List (List ℕ)) × AreBefore plan stretch next datagrams
    × (front : List ℕ) × IsPrefix next front × (text ≡ concat datagrams ++ front)

-- the number of these datagrams
abbrev pub IsCount : Plan → Stretch → ℕ → Type 0
IsCount plan stretch n = (datagrams : List (List ℕ)) × AreDatagrams plan stretch datagrams × (n ≡ length datagrams)
