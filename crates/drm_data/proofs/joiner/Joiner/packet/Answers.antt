use Rattle.std.proofs.Common.{refl, sym, ap, ◌∙◌}
use Rattle.drm_data.specs.Reading.{packet_of}
use Rattle.drm_data.specs.Joining.{Whole, CutWhole}
use Rattle.drm_data.specs.Room.{said}
use Rattle.drm_data.proofs.Joinings.{joined, answered, passed, unanswered, broken, refused}
use Rattle.drm_data.proofs.joiner.Joiner.packet.Goals as goal

pub returns-in-Err : goal.returns-in-Err
returns-in-Err c = (
  (
    refl,
    (λ x. tt),
    broken c.args.self.now c.self.inside c.close-cut.new.self c.args.bytes.now c.in-Err.fault c.self.view_is c.in-Err.ensures.fault c.self.invariant.room c.close-cut.ensures.room
        c.close-cut.ensures.closed,
  ),
  record {
    takes = refused c.args.self.now c.self.inside c.args.bytes.now c.in-Err.fault c.close-cut.result c.self.view_is c.in-Err.ensures.fault c.close-cut.ensures.cut;
    after = tt;
  },
)

pub returns-then-packet-self : goal.returns-then-packet-self
returns-then-packet-self c = (
  (refl, (λ x. tt), passed c.args.self.now c.self.inside c.args.bytes.now (packet_of c.in-Ok.packet) c.self.view_is c.in-Ok.ensures.found c.if-packet-self.true),
  record {
    takes = unanswered c.args.self.now c.self.inside c.args.bytes.now (packet_of c.in-Ok.packet) c.self.view_is c.in-Ok.ensures.found c.if-packet-self.true;
    after = tt;
  },
)

pub returns-in-Unit : goal.returns-in-Unit
returns-in-Unit c = (
  (
    refl,
    (λ x. tt),
    joined c.args.self.now c.self.inside c.join.new.self c.args.bytes.now (packet_of c.in-Ok.packet) c.self.view_is c.in-Ok.ensures.found c.if-packet-self.false c.self.invariant.room
        c.join.ensures.room c.join.ensures.begun,
  ),
  record {
    takes = answered c.args.self.now c.self.inside c.args.bytes.now (packet_of c.in-Ok.packet) (Whole c.front.result.now) c.self.view_is c.in-Ok.ensures.found c.if-packet-self.false
        (ap Whole c.front.ensures ∙ (ap (λ step. said step c.join.new.self.bytes.items) (sym c.in-Unit.is) ∙ c.join.ensures.says));
    after = tt;
  },
)

pub returns-in-CutUnit : goal.returns-in-CutUnit
returns-in-CutUnit c = (
  (
    refl,
    (λ x. tt),
    joined c.args.self.now c.self.inside c.join.new.self c.args.bytes.now (packet_of c.in-Ok.packet) c.self.view_is c.in-Ok.ensures.found c.if-packet-self.false c.self.invariant.room
        c.join.ensures.room c.join.ensures.begun,
  ),
  record {
    takes = answered c.args.self.now c.self.inside c.args.bytes.now (packet_of c.in-Ok.packet) (CutWhole c.front-in-CutUnit.result.now) c.self.view_is c.in-Ok.ensures.found c.if-packet-self.false
        (ap CutWhole c.front-in-CutUnit.ensures ∙ (ap (λ step. said step c.join.new.self.bytes.items) (sym c.in-CutUnit.is) ∙ c.join.ensures.says));
    after = tt;
  },
)

pub returns-in-Nothing : goal.returns-in-Nothing
returns-in-Nothing c = (
  (
    refl,
    (λ x. tt),
    joined c.args.self.now c.self.inside c.join.new.self c.args.bytes.now (packet_of c.in-Ok.packet) c.self.view_is c.in-Ok.ensures.found c.if-packet-self.false c.self.invariant.room
        c.join.ensures.room c.join.ensures.begun,
  ),
  record {
    takes = answered c.args.self.now c.self.inside c.args.bytes.now (packet_of c.in-Ok.packet) _ c.self.view_is c.in-Ok.ensures.found c.if-packet-self.false
        (ap (λ step. said step c.join.new.self.bytes.items) (sym c.in-Nothing.is) ∙ c.join.ensures.says);
    after = tt;
  },
)

pub returns-in-Cut : goal.returns-in-Cut
returns-in-Cut c = (
  (
    refl,
    (λ x. tt),
    joined c.args.self.now c.self.inside c.join.new.self c.args.bytes.now (packet_of c.in-Ok.packet) c.self.view_is c.in-Ok.ensures.found c.if-packet-self.false c.self.invariant.room
        c.join.ensures.room c.join.ensures.begun,
  ),
  record {
    takes = answered c.args.self.now c.self.inside c.args.bytes.now (packet_of c.in-Ok.packet) _ c.self.view_is c.in-Ok.ensures.found c.if-packet-self.false
        (ap (λ step. said step c.join.new.self.bytes.items) (sym c.in-Cut.is) ∙ c.join.ensures.says);
    after = tt;
  },
)
