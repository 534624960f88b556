use Rattle.std.proofs.Common.{ℕ, List, take, Some, None, refl}
use Rattle.drm_text.specs.Joining.{GivesMessage}
use Rattle.drm_text.specs.Buffers.{front_of}
use Rattle.drm_text.specs.Taking.{text_of}
use Rattle.drm_text.proofs.Joinings.{full_leaves, full_tells, gives_text}
use Rattle.drm_text.proofs.joiner.TextJoiner.piece.Goals as goal

pub returns-in-Some : goal.returns-in-Some
returns-in-Some c =
    let text : List ℕ = c.take_segment.new.message.text in
    let bytes : List ℕ = take c.in-Full.len c.take.new.self.bytes in
    let gives : GivesMessage (front_of text (Some c.in-Some.len)) (text_of c.as_text.result) =
    gives_text (take c.in-Some.len text) c.front.result.now c.as_text.result c.front.ensures c.as_text.ensures.utf8 c.as_text.ensures.text in (
      (
        refl,
        (λ x. tt),
        full_leaves c.args.self.now c.self.inside.segment c.take.new.self c.self.inside.message c.take_segment.new.message c.args.piece bytes c.take_segment.result c.self.view_is
            c.in-Full.ensures.gathered.1 c.take.ensures.after c.take_segment.ensures,
      ),
      record {
        tells = full_tells c.args.self.now c.self.inside.segment c.self.inside.message c.take_segment.new.message c.args.piece bytes (Some c.in-Some.len) c.as_text.result c.self.view_is
            c.in-Full.ensures.gathered.1 c.in-Some.ensures gives;
        after = tt;
      },
    )

pub returns-in-None : goal.returns-in-None
returns-in-None c =
    let bytes : List ℕ = take c.in-Full.len c.take.new.self.bytes in (
      (
        refl,
        (λ x. tt),
        full_leaves c.args.self.now c.self.inside.segment c.take.new.self c.self.inside.message c.take_segment.new.message c.args.piece bytes c.take_segment.result c.self.view_is
            c.in-Full.ensures.gathered.1 c.take.ensures.after c.take_segment.ensures,
      ),
      record {
        tells = full_tells c.args.self.now c.self.inside.segment c.self.inside.message c.take_segment.new.message c.args.piece bytes None None c.self.view_is c.in-Full.ensures.gathered.1 c.in-None.ensures refl;
        after = tt;
      },
    )
