-- A shelf in memory.
use Rattle.std.specs.Prelude.{ℕ, List, Option, String, string_bytes}
use Rattle.std.specs.Prelude as list
use Rattle.std.specs.Ordering.{nat_cmp}
use Rattle.std.specs.Cmp.Lexicographic.{slice_cmp}
use Rattle.std.specs.BTreeMap.{BTreeMap}
use Rattle.std.specs.FinMap as map
use Rattle.std.specs.Coded.{Coded, code_by, coded×, coded_ℕ, coded_list}
use Rattle.drm_links.specs.Known.{Known, one_more, contents_for}
use Rattle.drm_links.specs.Shelf.{Files, names_after}
use Rattle.drm_links.specs.declared.shelf.Loaded.{Loaded}
use Rattle.drm_links.specs.declared.shelf.Loaded.TheVariants.{Bytes, TooLong, Failed, NoMemory}

-- the files by the bytes of their names
abbrev pub by_name : {A : Type 0} → BTreeMap (String A) (List ℕ) → map.FinMap (slice_cmp nat_cmp) (List ℕ)
by_name named = map.from_entries (list.map (λ entry. (string_bytes entry.0, entry.1)) named.entries)

-- the files by their names, the numbers of the loads, from 0, that are to fail, the number of loads so far, the names that
-- they asked for, and how many of them failed
pub record ShelfState : Type 0 where
  pub files : map.FinMap (slice_cmp nat_cmp) (List ℕ)
  pub failing : List ℕ
  pub loads : ℕ
  pub names : List (List ℕ)
  pub faults : ℕ

-- a shelf is stored as its fields
abbrev pub shelf_code : Coded ShelfState
shelf_code =
    code_by (map.FinMap (slice_cmp nat_cmp) (List ℕ) × (List ℕ × (ℕ × (List (List ℕ) × ℕ))))
    (coded× (map.code (coded_list coded_ℕ) (coded_list coded_ℕ))
    (coded× (coded_list coded_ℕ) (coded× coded_ℕ (coded× (coded_list (coded_list coded_ℕ)) coded_ℕ))))
    (λ shelf. (shelf.files, (shelf.failing, (shelf.loads, (shelf.names, shelf.faults)))))
    (λ parts. record { files = parts.0; failing = parts.1.0; loads = parts.1.1.0; names = parts.1.1.1.0; faults = parts.1.1.1.1 })
    (λ _. list.refl)

-- what is on the shelf
abbrev pub contents_of : ShelfState → Files
contents_of shelf = record { files = shelf.files; loads = shelf.loads; names = shelf.names; failing = shelf.failing }

abbrev pub shelf_known : ShelfState → Known Files
shelf_known shelf = record { faults = shelf.faults; contents = contents_for shelf.loads (contents_of shelf) }

-- these files, and one of this name in place of any other
abbrev pub with_file : List ℕ → List ℕ → Files → Files
with_file name bytes contents = record contents { files = map.insert contents.files name bytes }

-- the count of faults after a load with this answer: only a failed one is a fault
abbrev pub faults_after : Loaded → ℕ → ℕ
faults_after Failed faults = one_more faults
faults_after TooLong faults = faults
faults_after NoMemory faults = faults
faults_after (Bytes octets) faults = faults

-- the shelf after a load of this name with this answer
abbrev pub shelf_after : Loaded → List ℕ → ShelfState → ShelfState
shelf_after loaded name shelf =
    record shelf { loads = one_more shelf.loads; names = names_after loaded name shelf.names; faults = faults_after loaded shelf.faults }
