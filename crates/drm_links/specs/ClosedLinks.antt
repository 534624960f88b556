-- The links that a dock in memory keeps once they are closed, and what happened at groups.
use Rattle.std.specs.Prelude.{ℕ, List, Option}
use Rattle.std.specs.List.{filter_map}
use Rattle.std.specs.Option.{option_map}
use Rattle.drm_links.specs.Dock.{address_key}
use Rattle.drm_links.specs.MemoryLink.{LinkState}
use Rattle.drm_links.specs.History.{GroupEvent}
use Rattle.drm_links.specs.MemoryGroup.{GroupBookState}
use Rattle.drm_links.specs.declared.docked_link.ClosedLink.{ClosedLink}

-- a link that was closed, by the key of its address
abbrev pub entry_of : Option ClosedLink → Option (List ℕ × LinkState)
entry_of held = option_map (λ closed. (address_key closed.at, closed.link)) held

-- those that these nodes hold
abbrev pub entries_of : List (Option ClosedLink) → List (List ℕ × LinkState)
entries_of nodes = filter_map entry_of nodes

-- what these books hold
abbrev pub histories_of : List (Option GroupBookState) → List (List GroupEvent)
histories_of pages = filter_map (λ page. option_map (λ (book : GroupBookState). book.events) page) pages
