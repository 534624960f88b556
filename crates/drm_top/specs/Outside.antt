-- What a run uses of the outside.
use Rattle.std.specs.Prelude.{◌≡◌}
use Rattle.drm_links.specs.Known.{Known}
use Rattle.drm_links.specs.Shelf.{Files}
use Rattle.drm_links.specs.Source.{Input}
use Rattle.drm_links.specs.Sink.{Output}
use Rattle.drm_links.specs.Dock.{DockContents}

-- an object before a run and after it, and what is known of it
pub record Object (T X : Type 0) : Type 0 where
  pub known : T → Known X
  pub before : T
  pub after : T

-- the five objects of a run
pub record Outside (S I O E D : Type 0) : Type 0 where
  pub shelf : Object S Files
  pub input : Object I Input
  pub out : Object O Output
  pub err : Object E Output
  pub dock : Object D DockContents

abbrev pub outside : {S I O E D : Type 0} → (S → Known Files) → S → S → (I → Known Input) → I → I → (O → Known Output) → O → O
    → (E → Known Output) → E → E → (D → Known DockContents) → D → D → Outside S I O E D
outside shelf_known shelf shelf' input_known input input' out_known out out' err_known err err' dock_known dock dock' = record {
  shelf = record { known = shelf_known; before = shelf; after = shelf' };
  input = record { known = input_known; before = input; after = input' };
  out = record { known = out_known; before = out; after = out' };
  err = record { known = err_known; before = err; after = err' };
  dock = record { known = dock_known; before = dock; after = dock' };
}

-- it is left alone
abbrev pub IsStill : {T X : Type 0} → Object T X → Type 0
IsStill object = object.after ≡ object.before
