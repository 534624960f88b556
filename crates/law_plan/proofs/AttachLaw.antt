-- Files that come one after another make a plan whole, and a whole plan has the bytes that came.
use Rattle.std.proofs.Common.{◌≡◌, ℕ, zero, suc, ◌+◌, List, [], ◌∷◌, ◌++◌, Some, length, map, refl, sym, ap, subst, ◌∙◌, arith}
use Rattle.std.specs.Prelude.{All}
use Rattle.std.specs.List.{flat_map}
use Rattle.std.proofs.lemmas.List.Concat.{flat_map-cons}
use Rattle.std.proofs.lemmas.List.Elements.{All-nil, All-cons, All-head, All-tail, All-weaker}
use Rattle.drm_schedule.specs.declared.config.Config.{Config}
use Rattle.drm_schedule.specs.declared.stream.Content.{Content}
use Rattle.drm_schedule.specs.declared.stream.Content.TheVariants.{Fill, File}
use Rattle.drm_schedule.specs.declared.stream.Stream.{Stream}
use Rattle.drm_schedule.specs.declared.plan.Plan.{Plan}
use Rattle.drm_schedule.specs.Ranges.{InLines}
use Rattle.drm_plan.specs.declared.files.FileRef.{FileRef}
use Rattle.drm_plan.specs.Files.{file_here, stream_files, config_files, filled, filled_stream, filled_config, with_file, name_in, name_of_stream, name_of_config, name_of, emptied, without_bytes, config_without_bytes, without_files}
use Rattle.law_plan.specs.Texts.{OfFile, EachFile}
use Rattle.law_plan.specs.Whole.{file_in, files_of, files_in}
use Rattle.drm_plan.specs.Lookup.{at, changed}
use Rattle.drm_plan.proofs.FileLemmas.{with_file_fits}

-- Where each of these files got bytes of which P holds, one after another, this plan became the whole one.
abbrev pub Fills : (List ℕ → List ℕ → Type 0) → List FileRef → Plan → Plan → Type 0
Fills P [] plan whole = plan ≡ whole
Fills P (file ∷ files) plan whole = (bytes : List ℕ) × P (name_of file plan) bytes × Fills P files (with_file file bytes plan) whole

-- and these are the bytes
abbrev pub FillsWith : (List ℕ → List ℕ → Type 0) → List FileRef → List (List ℕ) → Plan → Plan → Type 0
FillsWith P [] [] plan whole = plan ≡ whole
FillsWith P [] (bytes ∷ all) plan whole = ⊥
FillsWith P (file ∷ files) [] plan whole = ⊥
FillsWith P (file ∷ files) (bytes ∷ all) plan whole = P (name_of file plan) bytes × FillsWith P files all (with_file file bytes plan) whole

pub at_seam : {X : Type 0} (a : List X) (x : X) (b : List X) → at (length a) (a ++ x ∷ b) ≡ Some x
at_seam [] x b = refl
at_seam (y ∷ a) x b = at_seam a x b

heads : {X : Type 0} (x y : X) (xs ys : List X) → x ∷ xs ≡ y ∷ ys → x ≡ y
heads x y xs ys e = cc

tails : {X : Type 0} (x y : X) (xs ys : List X) → x ∷ xs ≡ y ∷ ys → xs ≡ ys
tails x y xs ys e = cc

abbrev pub with_configs : Plan → List Config → Plan
with_configs plan configs = record plan { configs = configs }

abbrev of_content : ℕ → ℕ → Content → Stream
of_content a b content = record { a = a; b = b; content = content }

abbrev stream_file : Stream → List (List ℕ)
stream_file stream = file_in stream.content

-- a plan that has these configurations from number i on
record OfConfigs (i : ℕ) (made : List Config → Plan) : Type 0 where
  named : (k n : ℕ) → n ≡ i + k → (j : ℕ) (cs : List Config) → name_of (record { config = n; stream = j }) (made cs) ≡ name_of_config j (at k cs)
  given : (k n : ℕ) → n ≡ i + k → (j : ℕ) (bytes : List ℕ) (cs : List Config) → with_file (record { config = n; stream = j }) bytes (made cs) ≡ made (changed (filled_config j bytes) k cs)

-- a plan of which configuration i has these streams from number j on
record OfStreams (i j : ℕ) (made : List Stream → Plan) : Type 0 where
  named : (k n : ℕ) → n ≡ j + k → (ss : List Stream) → name_of (record { config = i; stream = n }) (made ss) ≡ name_of_stream (at k ss)
  given : (k n : ℕ) → n ≡ j + k → (bytes : List ℕ) (ss : List Stream) → with_file (record { config = i; stream = n }) bytes (made ss) ≡ made (changed (filled_stream bytes) k ss)

from_none : (k n : ℕ) → n ≡ 0 + k → n ≡ k
from_none k n is = omega (arith, is)

of_plan : (plan : Plan) → OfConfigs 0 (with_configs plan)
of_plan plan = record {
  named = λ k n is j cs. ap (λ (m : ℕ). name_of_config j (at m cs)) (from_none k n is);
  given = λ k n is j bytes cs. ap (λ (m : ℕ). with_configs plan (changed (filled_config j bytes) m cs)) (from_none k n is);
}

next_config : (i : ℕ) (made : List Config → Plan) → OfConfigs i made → (c : Config) → OfConfigs (i + 1) (λ cs. made (c ∷ cs))
next_config i made of c = record {
  named = λ k n is j cs. of.named (suc k) n (omega (arith, is)) j (c ∷ cs);
  given = λ k n is j bytes cs. of.given (suc k) n (omega (arith, is)) j bytes (c ∷ cs);
}

first_stream : (i : ℕ) (made : List Config → Plan) → OfConfigs i made → (c : Config) (cs : List Config) → OfStreams i 0 (λ ss. made (record c { streams = ss } ∷ cs))
first_stream i made of c cs = record {
  named = λ k n is ss. of.named 0 i (omega arith) n (record c { streams = ss } ∷ cs) ∙ ap (λ (m : ℕ). name_of_stream (at m ss)) (from_none k n is);
  given = λ k n is bytes ss. of.given 0 i (omega arith) n bytes (record c { streams = ss } ∷ cs) ∙ ap (λ (m : ℕ). made (record c { streams = changed (filled_stream bytes) m ss } ∷ cs)) (from_none k n is);
}

next_stream : (i j : ℕ) (made : List Stream → Plan) → OfStreams i j made → (s : Stream) → OfStreams i (j + 1) (λ ss. made (s ∷ ss))
next_stream i j made of s = record {
  named = λ k n is ss. of.named (suc k) n (omega (arith, is)) (s ∷ ss);
  given = λ k n is bytes ss. of.given (suc k) n (omega (arith, is)) bytes (s ∷ ss);
}

module _ (P : List ℕ → List ℕ → Type 0) where
  abbrev Filled : Stream → Type 0
  Filled s = OfFile P s.content

  abbrev AllFilled : Config → Type 0
  AllFilled c = All Filled c.streams

  -- ---- with their bytes, and without

  pub fills_some : (files : List FileRef) (all : List (List ℕ)) (plan whole : Plan) → FillsWith P files all plan whole → Fills P files plan whole
  fills_some [] [] plan whole fills = fills
  fills_some [] (bytes ∷ all) plan whole fills = absurd fills
  fills_some (file ∷ files) [] plan whole fills = absurd fills
  fills_some (file ∷ files) (bytes ∷ all) plan whole fills = (bytes, fills.0, fills_some files all (with_file file bytes plan) whole fills.1)

  abbrev bytes_of : (files : List FileRef) (plan whole : Plan) → Fills P files plan whole → List (List ℕ)
  bytes_of [] plan whole fills = []
  bytes_of (file ∷ files) plan whole fills = fills.0 ∷ bytes_of files (with_file file fills.0 plan) whole fills.2

  fills_these : (files : List FileRef) (plan whole : Plan) (fills : Fills P files plan whole) → FillsWith P files (bytes_of files plan whole fills) plan whole
  fills_these [] plan whole fills = fills
  fills_these (file ∷ files) plan whole fills = (fills.1, fills_these files (with_file file fills.0 plan) whole fills.2)

  -- as many bytes as files
  pub fills_count : (files : List FileRef) (all : List (List ℕ)) (plan whole : Plan) → FillsWith P files all plan whole → length all ≡ length files
  fills_count [] [] plan whole fills = refl
  fills_count [] (bytes ∷ all) plan whole fills = absurd fills
  fills_count (file ∷ files) [] plan whole fills = absurd fills
  fills_count (file ∷ files) (bytes ∷ all) plan whole fills = ap suc (fills_count files all (with_file file bytes plan) whole fills.1)

  -- ---- one run behind another

  fills_then : (first next : List FileRef) (xs ys : List (List ℕ)) (plan middle whole : Plan) → FillsWith P first xs plan middle → FillsWith P next ys middle whole → FillsWith P (first ++ next) (xs ++ ys) plan whole
  fills_then [] next [] ys plan middle whole fills more = subst (λ (p : Plan). FillsWith P next ys p whole) (sym fills) more
  fills_then [] next (x ∷ xs) ys plan middle whole fills more = absurd fills
  fills_then (file ∷ first) next [] ys plan middle whole fills more = absurd fills
  fills_then (file ∷ first) next (x ∷ xs) ys plan middle whole fills more = (fills.0, fills_then first next xs ys (with_file file x plan) middle whole fills.1 more)

  record Parts (first next : List FileRef) (all : List (List ℕ)) (plan whole : Plan) : Type 0 where
    xs : List (List ℕ)
    ys : List (List ℕ)
    middle : Plan
    are : xs ++ ys ≡ all
    fills : FillsWith P first xs plan middle
    more : FillsWith P next ys middle whole

  parts : (first next : List FileRef) (all : List (List ℕ)) (plan whole : Plan) → FillsWith P (first ++ next) all plan whole → Parts first next all plan whole
  parts [] next all plan whole fills = record { xs = []; ys = all; middle = plan; are = refl; fills = refl; more = fills }
  parts (file ∷ first) next [] plan whole fills = absurd fills
  parts (file ∷ first) next (x ∷ all) plan whole fills =
      let r = parts first next all (with_file file x plan) whole fills.1 in
      record { xs = x ∷ r.xs; ys = r.ys; middle = r.middle; are = ap (λ (l : List (List ℕ)). x ∷ l) r.are; fills = (fills.0, r.fills); more = r.more }

  -- ---- to the whole plan

  stream_comes : (i j : ℕ) (made : List Stream → Plan) → OfStreams i j made → (a b : ℕ) (old new : Content) (more : List Stream) → emptied old ≡ emptied new → OfFile P new
      → FillsWith P (file_here i j (of_content a b old)) (file_in new) (made (of_content a b old ∷ more)) (made (of_content a b new ∷ more))
  stream_comes i j made of a b (Fill x) (Fill y) more same has = ap (λ (k : Content). made (of_content a b k ∷ more)) same
  stream_comes i j made of a b (Fill x) (File name y) more same has = absurd cc
  stream_comes i j made of a b (File first x) (Fill y) more same has = absurd cc
  stream_comes i j made of a b (File first x) (File name y) more same has =
      let names : first ≡ name = ap name_in same in (
        subst (λ (n : List ℕ). P n y) (sym (of.named 0 j (omega arith) (of_content a b (File first x) ∷ more) ∙ names)) has,
        of.given 0 j (omega arith) y (of_content a b (File first x) ∷ more) ∙ ap (λ (n : List ℕ). made (of_content a b (File n y) ∷ more)) names,
      )

  streams_come : (i j : ℕ) (made : List Stream → Plan) → OfStreams i j made → (old new : List Stream) → map without_bytes old ≡ map without_bytes new → All Filled new
      → FillsWith P (stream_files i j old) (flat_map stream_file new) (made old) (made new)
  streams_come i j made of [] [] same all = refl
  streams_come i j made of [] (t ∷ new) same all = absurd cc
  streams_come i j made of (s ∷ old) [] same all = absurd cc
  streams_come i j made of (s ∷ old) (t ∷ new) same all =
      let first : without_bytes s ≡ without_bytes t = heads (without_bytes s) (without_bytes t) (map without_bytes old) (map without_bytes new) same in
      let others : map without_bytes old ≡ map without_bytes new = tails (without_bytes s) (without_bytes t) (map without_bytes old) (map without_bytes new) same in
      let whole : of_content s.a s.b t.content ≡ t = ap (λ (x : Stream). of_content x.a x.b t.content) first in
      let now : FillsWith P (file_here i j s) (stream_file t) (made (s ∷ old)) (made (t ∷ old)) =
      subst (λ (x : Stream). FillsWith P (file_here i j s) (stream_file t) (made (s ∷ old)) (made (x ∷ old))) whole
      (stream_comes i j made of s.a s.b s.content t.content old (ap (λ (x : Stream). x.content) first) (All-head Filled t new all)) in
      rw (flat_map-cons stream_file t new)
      (fills_then (file_here i j s) (stream_files i (j + 1) old) (stream_file t) (flat_map stream_file new) (made (s ∷ old)) (made (t ∷ old)) (made (t ∷ new)) now
      (streams_come i (j + 1) (λ ss. made (t ∷ ss)) (next_stream i j made of t) old new others (All-tail Filled t new all)))

  configs_come : (i : ℕ) (made : List Config → Plan) → OfConfigs i made → (old new : List Config) → map config_without_bytes old ≡ map config_without_bytes new → All AllFilled new
      → FillsWith P (config_files i old) (flat_map files_of new) (made old) (made new)
  configs_come i made of [] [] same all = refl
  configs_come i made of [] (d ∷ new) same all = absurd cc
  configs_come i made of (c ∷ old) [] same all = absurd cc
  configs_come i made of (c ∷ old) (d ∷ new) same all =
      let first : config_without_bytes c ≡ config_without_bytes d = heads (config_without_bytes c) (config_without_bytes d) (map config_without_bytes old) (map config_without_bytes new) same in
      let others : map config_without_bytes old ≡ map config_without_bytes new = tails (config_without_bytes c) (config_without_bytes d) (map config_without_bytes old) (map config_without_bytes new) same in
      let whole : record c { streams = d.streams } ≡ d = ap (λ (x : Config). record x { streams = d.streams }) first in
      let now : FillsWith P (stream_files i 0 c.streams) (files_of d) (made (c ∷ old)) (made (d ∷ old)) =
      subst (λ (x : Config). FillsWith P (stream_files i 0 c.streams) (files_of d) (made (c ∷ old)) (made (x ∷ old))) whole
      (streams_come i 0 (λ ss. made (record c { streams = ss } ∷ old)) (first_stream i made of c old) c.streams d.streams (ap (λ (x : Config). x.streams) first) (All-head AllFilled d new all)) in
      rw (flat_map-cons files_of d new)
      (fills_then (stream_files i 0 c.streams) (config_files (i + 1) old) (files_of d) (flat_map files_of new) (made (c ∷ old)) (made (d ∷ old)) (made (d ∷ new)) now
      (configs_come (i + 1) (λ cs. made (d ∷ cs)) (next_config i made of d) old new others (All-tail AllFilled d new all)))

  -- the files of a schedule, put into a plan that is the same but for them, make the schedule
  pub plan_fills : (plan schedule : Plan) → without_files plan ≡ without_files schedule → EachFile P schedule → FillsWith P (config_files 0 plan.configs) (files_in schedule) plan schedule
  plan_fills plan schedule same all =
      subst (λ (p : Plan). FillsWith P (config_files 0 plan.configs) (files_in schedule) plan p) (ap (λ (p : Plan). with_configs p schedule.configs) same)
      (configs_come 0 (with_configs plan) (of_plan plan) plan.configs schedule.configs (ap (λ (p : Plan). p.configs) same) all)

  pub files_come : (plan schedule : Plan) → without_files plan ≡ without_files schedule → EachFile P schedule → Fills P (config_files 0 plan.configs) plan schedule
  files_come plan schedule same all = fills_some (config_files 0 plan.configs) (files_in schedule) plan schedule (plan_fills plan schedule same all)

  -- ---- from the whole plan

  record StreamIsFilled (made : List Stream → Plan) (all : List (List ℕ)) (more : List Stream) (whole : Plan) : Type 0 where
    stream : Stream
    has : Filled stream
    are : stream_file stream ≡ all
    is : made (stream ∷ more) ≡ whole

  stream_is_filled : (i j : ℕ) (made : List Stream → Plan) → OfStreams i j made → (a b : ℕ) (content : Content) (all : List (List ℕ)) (more : List Stream) (whole : Plan)
      → FillsWith P (file_here i j (of_content a b content)) all (made (of_content a b content ∷ more)) whole → StreamIsFilled made all more whole
  stream_is_filled i j made of a b (Fill x) [] more whole fills = record { stream = of_content a b (Fill x); has = tt; are = refl; is = fills }
  stream_is_filled i j made of a b (Fill x) (y ∷ all) more whole fills = absurd fills
  stream_is_filled i j made of a b (File name x) [] more whole fills = absurd fills
  stream_is_filled i j made of a b (File name x) (y ∷ z ∷ all) more whole fills = absurd fills.1
  stream_is_filled i j made of a b (File name x) (y ∷ []) more whole fills = record {
    stream = of_content a b (File name y);
    has = subst (λ (n : List ℕ). P n y) (of.named 0 j (omega arith) (of_content a b (File name x) ∷ more)) fills.0;
    are = refl;
    is = sym (of.given 0 j (omega arith) y (of_content a b (File name x) ∷ more)) ∙ fills.1;
  }

  record StreamsAreFilled (made : List Stream → Plan) (all : List (List ℕ)) (whole : Plan) : Type 0 where
    streams : List Stream
    have : All Filled streams
    are : flat_map stream_file streams ≡ all
    is : made streams ≡ whole

  streams_are_filled : (i j : ℕ) (made : List Stream → Plan) → OfStreams i j made → (old : List Stream) (all : List (List ℕ)) (whole : Plan) → FillsWith P (stream_files i j old) all (made old) whole → StreamsAreFilled made all whole
  streams_are_filled i j made of [] [] whole fills = record { streams = []; have = All-nil Filled; are = refl; is = fills }
  streams_are_filled i j made of [] (x ∷ all) whole fills = absurd fills
  streams_are_filled i j made of (s ∷ old) all whole fills =
      let cut = parts (file_here i j s) (stream_files i (j + 1) old) all (made (s ∷ old)) whole fills in
      let now = stream_is_filled i j made of s.a s.b s.content cut.xs old cut.middle cut.fills in
      let behind = streams_are_filled i (j + 1) (λ ss. made (now.stream ∷ ss)) (next_stream i j made of now.stream) old cut.ys whole
      (subst (λ (p : Plan). FillsWith P (stream_files i (j + 1) old) cut.ys p whole) (sym now.is) cut.more) in
      record {
        streams = now.stream ∷ behind.streams;
        have = All-cons Filled now.stream behind.streams now.has behind.have;
        are = flat_map-cons stream_file now.stream behind.streams ∙ rw (now.are, behind.are) cut.are;
        is = behind.is;
      }

  record ConfigsAreFilled (made : List Config → Plan) (all : List (List ℕ)) (whole : Plan) : Type 0 where
    configs : List Config
    have : All AllFilled configs
    are : flat_map files_of configs ≡ all
    is : made configs ≡ whole

  configs_are_filled : (i : ℕ) (made : List Config → Plan) → OfConfigs i made → (old : List Config) (all : List (List ℕ)) (whole : Plan) → FillsWith P (config_files i old) all (made old) whole → ConfigsAreFilled made all whole
  configs_are_filled i made of [] [] whole fills = record { configs = []; have = All-nil AllFilled; are = refl; is = fills }
  configs_are_filled i made of [] (x ∷ all) whole fills = absurd fills
  configs_are_filled i made of (c ∷ old) all whole fills =
      let cut = parts (stream_files i 0 c.streams) (config_files (i + 1) old) all (made (c ∷ old)) whole fills in
      let now = streams_are_filled i 0 (λ ss. made (record c { streams = ss } ∷ old)) (first_stream i made of c old) c.streams cut.xs cut.middle cut.fills in
      let full : Config = record c { streams = now.streams } in
      let behind = configs_are_filled (i + 1) (λ cs. made (full ∷ cs)) (next_config i made of full) old cut.ys whole
      (subst (λ (p : Plan). FillsWith P (config_files (i + 1) old) cut.ys p whole) (sym now.is) cut.more) in
      record {
        configs = full ∷ behind.configs;
        have = All-cons AllFilled full behind.configs now.have behind.have;
        are = flat_map-cons files_of full behind.configs ∙ rw (now.are, behind.are) cut.are;
        is = behind.is;
      }

  -- the bytes that came are those of the whole plan, and P holds of them
  pub plan_filled : (plan whole : Plan) (all : List (List ℕ)) → FillsWith P (config_files 0 plan.configs) all plan whole → EachFile P whole × (files_in whole ≡ all)
  plan_filled plan whole all fills =
      let r = configs_are_filled 0 (with_configs plan) (of_plan plan) plan.configs all whole fills in
      subst (λ (p : Plan). EachFile P p × (files_in p ≡ all)) r.is (r.have, r.are)

  pub files_are_filled : (plan whole : Plan) → Fills P (config_files 0 plan.configs) plan whole → EachFile P whole
  files_are_filled plan whole fills = (plan_filled plan whole _ (fills_these (config_files 0 plan.configs) plan whole fills)).0

  -- a plan that a text can give is still one
  pub fills_fit : (files : List FileRef) (plan whole : Plan) → Fills P files plan whole → InLines plan → InLines whole
  fills_fit [] plan whole fills fits = subst InLines fills fits
  fills_fit (file ∷ files) plan whole fills fits = fills_fit files (with_file file fills.0 plan) whole fills.2 (with_file_fits file fills.0 plan fits)

-- ---- what holds of each file

content_weaker : (P Q : List ℕ → List ℕ → Type 0) → ((name bytes : List ℕ) → P name bytes → Q name bytes) → (content : Content) → OfFile P content → OfFile Q content
content_weaker P Q weaker (Fill byte) has = tt
content_weaker P Q weaker (File name bytes) has = weaker name bytes has

pub each_weaker : (P Q : List ℕ → List ℕ → Type 0) → ((name bytes : List ℕ) → P name bytes → Q name bytes) → (plan : Plan) → EachFile P plan → EachFile Q plan
each_weaker P Q weaker plan each =
    All-weaker (AllFilled P) (AllFilled Q) (λ c. All-weaker (Filled P) (Filled Q) (λ s. content_weaker P Q weaker s.content) c.streams) plan.configs each

-- ---- what stays

emptied_again : (bytes : List ℕ) (content : Content) → emptied (filled bytes content) ≡ emptied content
emptied_again bytes (Fill byte) = refl
emptied_again bytes (File name old) = refl

changed_same : {X : Type 0} (f g : X → X) → ((x : X) → g (f x) ≡ g x) → (k : ℕ) (xs : List X) → map g (changed f k xs) ≡ map g xs
changed_same f g same k [] = refl
changed_same f g same zero (x ∷ xs) = ap (λ y. y ∷ map g xs) (same x)
changed_same f g same (suc k) (x ∷ xs) = ap (λ ys. g x ∷ ys) (changed_same f g same k xs)

stream_same : (bytes : List ℕ) (s : Stream) → without_bytes (filled_stream bytes s) ≡ without_bytes s
stream_same bytes s = ap (λ (k : Content). record s { content = k }) (emptied_again bytes s.content)

config_same : (j : ℕ) (bytes : List ℕ) (c : Config) → config_without_bytes (filled_config j bytes c) ≡ config_without_bytes c
config_same j bytes c = ap (λ (ss : List Stream). record c { streams = ss }) (changed_same (filled_stream bytes) without_bytes (stream_same bytes) j c.streams)

with_file_same : (file : FileRef) (bytes : List ℕ) (plan : Plan) → without_files (with_file file bytes plan) ≡ without_files plan
with_file_same file bytes plan =
    ap (λ (cs : List Config). record plan { configs = cs }) (changed_same (filled_config file.stream bytes) config_without_bytes (config_same file.stream bytes) file.config plan.configs)

-- files that come change nothing but their bytes
pub fills_same : (P : List ℕ → List ℕ → Type 0) (files : List FileRef) (plan whole : Plan) → Fills P files plan whole → without_files plan ≡ without_files whole
fills_same P [] plan whole fills = ap without_files fills
fills_same P (file ∷ files) plan whole fills = sym (with_file_same file fills.0 plan) ∙ fills_same P files (with_file file fills.0 plan) whole fills.2
