-- The files of a shelf in memory, by the bytes of their names.
use Rattle.std.proofs.Common.{◌≡◌, ℕ, ◌^◌, inr, Bool, true, false, nat_le, None, if◌then◌else◌, Contains, Option, List, [], ◌∷◌, cond, Some, refl, sym, ◌∙◌, ap}
use Rattle.std.specs.Prelude as list
use Rattle.std.specs.Prelude.{String, string_bytes}
use Rattle.std.specs.Ordering.{nat_cmp, is_eq, eq_by_cmp}
use Rattle.std.specs.Cmp.{eq_by_cmp_equiv}
use Rattle.std.specs.Cmp.Lexicographic.{slice_cmp, nat_list_cmp_total}
use Rattle.std.specs.String.{string_cmp}
use Rattle.std.specs.Str.{bytes_eq}
use Rattle.std.specs.Map.{lookup}
use Rattle.std.specs.Option.{option_map}
use Rattle.std.specs.BTreeMap as tree
use Rattle.std.specs.BTreeMap.{BTreeMap, is_at}
use Rattle.std.specs.FinMap as map
use Rattle.std.proofs.lemmas.Map.Text.{text_cmp, btree_map_updates_text, is_eq-slice_cmp}
use Rattle.drm_links.specs.Shelf.{Files, LoadGives, ShelfLoads, file_at}
use Rattle.drm_links.specs.declared.shelf.Loaded.{Loaded}
use Rattle.drm_links.specs.declared.shelf.Loaded.TheVariants.{Bytes, TooLong, Failed, NoMemory}
use Rattle.drm_links.specs.MemoryShelf.{ShelfState, by_name, shelf_known, with_file}

find-by_name : {A : Type 0} (name : List ℕ) (es : List (String A × List ℕ)) → map.find (slice_cmp nat_cmp) name (list.map (λ e. (string_bytes e.0, e.1)) es) ≡ lookup (is_at (text_cmp name)) es
find-by_name name [] = refl
find-by_name name (e ∷ es) = ap (cond (is_eq (slice_cmp nat_cmp name (string_bytes e.0))) (Some e.1)) (find-by_name name es)

-- the file of a name is the one that the map has there
pub get-by_name : {A : Type 0} (named : BTreeMap (String A) (List ℕ)) (name : List ℕ) → map.get (by_name named) name ≡ tree.get_by_text named name
get-by_name named name = map.get-from_entries nat_list_cmp_total _ name ∙ find-by_name name named.entries

same_test : (name other : List ℕ) → bytes_eq name other ≡ eq_by_cmp (slice_cmp nat_cmp) other name
same_test name other = sym (is_eq-slice_cmp name other) ∙ (eq_by_cmp_equiv nat_list_cmp_total).symm name other

-- an entry that was put into the map is a file that was put on the shelf
pub by_name-insert : {A : Type 0} (old new : BTreeMap (String A) (List ℕ)) (name bytes : List ℕ) → tree.UpdatesBy string_cmp (λ k. slice_cmp nat_cmp name (string_bytes k)) old new (Some bytes) → by_name new ≡ map.insert (by_name old) name bytes
by_name-insert old new name bytes updates =
    map.same_map nat_list_cmp_total (map.slice_cmp-IsAntisymmetric map.nat_cmp-IsAntisymmetric) _ _
    (λ q. get-by_name new q
    ∙ (btree_map_updates_text name old new (Some bytes) updates q
    ∙ (ap (λ same. cond same (Some bytes) (tree.get_by_text old q)) (same_test name q)
    ∙ (ap (cond (eq_by_cmp (slice_cmp nat_cmp) q name) (Some bytes)) (sym (get-by_name old q))
    ∙ sym (map.get-insert nat_list_cmp_total (by_name old) name bytes q)))))

-- a load whose number isn't to fail gives what is there
pub Loads-given : (loaded : Loaded) (name : List ℕ) (limit : ℕ) (known : Files) (file : Option (List ℕ)) → (Contains known.failing known.loads → ⊥) → LoadGives loaded limit file → file ≡ file_at known name → ShelfLoads loaded name limit known
Loads-given (Bytes octets) name limit known file unlisted gives is = (unlisted, rw is at gives)
Loads-given TooLong name limit known file unlisted gives is = (unlisted, rw is at gives)
Loads-given Failed name limit known file unlisted gives is = inr (rw is at gives)
Loads-given NoMemory name limit known file unlisted gives is = tt

pub changed_if : {T : Type 0} (known : Bool) (change : T → T) (contents : T) → (if known then Some (change contents) else None) ≡ option_map change (if known then Some contents else None)
changed_if true change contents = refl
changed_if false change contents = refl

-- what is told of the shelf, with one file more
pub contents-with_file : (shelf : ShelfState) (name bytes : List ℕ) → (shelf_known (record shelf { files = map.insert shelf.files name bytes })).contents ≡ option_map (with_file name bytes) (shelf_known shelf).contents
contents-with_file shelf name bytes = changed_if (nat_le shelf.loads (2 ^ 62)) (with_file name bytes) _
