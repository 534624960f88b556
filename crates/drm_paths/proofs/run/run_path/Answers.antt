use Rattle.std.proofs.Common.{◌≡◌, ◌+◌, ◌<◌, ◌⊎◌, ◌∙◌, refl, sym, take, ap, subst}
use Rattle.drm_links.specs.declared.link.Came.TheVariants as recv
use Rattle.drm_links.specs.Hearing.{LinkHeard}
use Rattle.drm_links.proofs.Hearing.{heard_none, heard_more}
use Rattle.drm_paths.specs.State.{PathState, most_bytes}
use Rattle.drm_paths.proofs.Comparing.{not_false}
use Rattle.drm_paths.proofs.Walking.{starts, on_failed, on_no_memory, on_limit, on_datagram, on_last_idle, on_idle}
use Rattle.drm_paths.proofs.run.run_path.Goals as goal

pub answers-init : goal.answers-init
answers-init g c = (
  starts c.args.options.now (LinkHeard (g.L.Link.known c.args.link.now) (g.L.Link.known c.args.link.now)) c.args.path.now.taken (heard_none (g.L.Link.known c.args.link.now)) c.requires.options c.requires.new,
  refl,
  c.requires.buffer,
  refl,
  refl,
)

pub returns-in-NoMemory-clause-read : goal.returns-in-NoMemory-clause-read
returns-in-NoMemory-clause-read g c =
    on_no_memory c.args.options.now (LinkHeard (g.L.Link.known c.args.link.now) (g.L.Link.known c.answers.link)) (LinkHeard (g.L.Link.known c.args.link.now) (g.L.Link.known c.recv.new.self)) c.answers.path.taken c.answers.taken c.answers.idles c.answers.invariant.0 (take c.in-Datagram.len c.recv.new.buf)
    (λ xs h. heard_more (g.L.Link.known c.args.link.now) (g.L.Link.known c.answers.link) (g.L.Link.known c.recv.new.self) xs (recv.Datagram c.in-Datagram.len) c.recv.new.buf h c.in-Datagram.ensures.answer c.in-Datagram.ensures.counts_call)
    c.give.new.self.taken (ap (λ (p : PathState). p.taken) (c.in-NoMemory.ensures.none refl))

pub returns-then-is_full-clause-read : goal.returns-then-is_full-clause-read
returns-then-is_full-clause-read g c =
    on_limit c.args.options.now (LinkHeard (g.L.Link.known c.args.link.now) (g.L.Link.known c.answers.link)) (LinkHeard (g.L.Link.known c.args.link.now) (g.L.Link.known c.recv.new.self)) c.answers.path.taken c.answers.taken c.answers.idles c.answers.invariant.0 (take c.in-Datagram.len c.recv.new.buf)
    (λ xs h. heard_more (g.L.Link.known c.args.link.now) (g.L.Link.known c.answers.link) (g.L.Link.known c.recv.new.self) xs (recv.Datagram c.in-Datagram.len) c.recv.new.buf h c.in-Datagram.ensures.answer c.in-Datagram.ensures.counts_call)
    c.give.new.self.taken (ap (λ (p : PathState). p.taken) (c.in-Took.ensures.took refl))
    (subst (λ n. (c.answers.taken + 1 ≡ c.args.options.now.limit) ⊎ (most_bytes < n + 65536)) c.bytes.ensures.bytes (c.if-is_full.ensures.0 refl))

pub answers-preserved-else-is_full : goal.answers-preserved-else-is_full
answers-preserved-else-is_full g c = (
  on_datagram c.args.options.now (LinkHeard (g.L.Link.known c.args.link.now) (g.L.Link.known c.answers.link)) (LinkHeard (g.L.Link.known c.args.link.now) (g.L.Link.known c.recv.new.self)) c.answers.path.taken c.answers.taken c.answers.idles c.answers.invariant.0 (take c.in-Datagram.len c.recv.new.buf)
      (λ xs h. heard_more (g.L.Link.known c.args.link.now) (g.L.Link.known c.answers.link) (g.L.Link.known c.recv.new.self) xs (recv.Datagram c.in-Datagram.len) c.recv.new.buf h c.in-Datagram.ensures.answer c.in-Datagram.ensures.counts_call)
      c.give.new.self.taken (ap (λ (p : PathState). p.taken) (c.in-Took.ensures.took refl))
      (λ full. not_false (c.if-is_full.ensures.1 (subst (λ n. (c.answers.taken + 1 ≡ c.args.options.now.limit) ⊎ (most_bytes < n + 65536)) (sym c.bytes.ensures.bytes) full))) c.requires.options,
  c.in-Datagram.ensures.cause.same (λ failed. cc) ∙ c.answers.invariant.1,
  c.recv.auto.buf ∙ c.answers.invariant.2,
  ap (λ (p : PathState). p.number) (c.in-Took.ensures.took refl) ∙ c.answers.invariant.3,
  ap (λ (p : PathState). p.parts) (c.in-Took.ensures.took refl) ∙ c.answers.invariant.4,
)

pub returns-then-idles-options-clause-read : goal.returns-then-idles-options-clause-read
returns-then-idles-options-clause-read g c =
    on_last_idle c.args.options.now (LinkHeard (g.L.Link.known c.args.link.now) (g.L.Link.known c.answers.link)) (LinkHeard (g.L.Link.known c.args.link.now) (g.L.Link.known c.recv.new.self)) c.answers.path.taken c.answers.taken c.answers.idles c.answers.invariant.0
    (λ xs h. heard_more (g.L.Link.known c.args.link.now) (g.L.Link.known c.answers.link) (g.L.Link.known c.recv.new.self) xs recv.Idle c.recv.new.buf h c.in-Idle.ensures.answer c.in-Idle.ensures.counts_call)
    c.if-idles-options.true

pub answers-preserved : goal.answers-preserved
answers-preserved g c = (
  on_idle c.args.options.now (LinkHeard (g.L.Link.known c.args.link.now) (g.L.Link.known c.answers.link)) (LinkHeard (g.L.Link.known c.args.link.now) (g.L.Link.known c.recv.new.self)) c.answers.path.taken c.answers.taken c.answers.idles c.answers.invariant.0
      (λ xs h. heard_more (g.L.Link.known c.args.link.now) (g.L.Link.known c.answers.link) (g.L.Link.known c.recv.new.self) xs recv.Idle c.recv.new.buf h c.in-Idle.ensures.answer c.in-Idle.ensures.counts_call)
      c.if-idles-options.false,
  c.in-Idle.ensures.cause.same (λ failed. cc) ∙ c.answers.invariant.1,
  c.recv.auto.buf ∙ c.answers.invariant.2,
  c.answers.invariant.3,
  c.answers.invariant.4,
)

pub returns-in-Failed-clause-read : goal.returns-in-Failed-clause-read
returns-in-Failed-clause-read g c =
    on_failed c.args.options.now (LinkHeard (g.L.Link.known c.args.link.now) (g.L.Link.known c.answers.link)) (LinkHeard (g.L.Link.known c.args.link.now) (g.L.Link.known c.recv.new.self)) c.answers.path.taken c.answers.taken c.answers.idles c.answers.invariant.0
    (λ xs h. heard_more (g.L.Link.known c.args.link.now) (g.L.Link.known c.answers.link) (g.L.Link.known c.recv.new.self) xs recv.Failed c.recv.new.buf h c.in-Failed.ensures.answer c.in-Failed.ensures.counts_call)
