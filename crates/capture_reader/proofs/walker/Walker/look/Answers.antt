use Rattle.std.proofs.Common.{◌≡◌, ℕ, List, take, length, min, sym, ap, ◌∙◌}
use Rattle.std.proofs.lemmas.List.{take_min}
use Rattle.capture_reader.specs.Walking.{WalkerState}
use Rattle.capture_reader.proofs.walker.Walker.look.Goals as goal

-- what was copied is the front
front_copied : (head items : List ℕ) (len : ℕ) → len ≡ min 20 (length items) → take len head ≡ take len items → take len head ≡ take 20 items
front_copied head items len count copied = copied ∙ (ap (λ n. take n items) count ∙ take_min 20 items)

pub returns : goal.returns
returns c =
    let held : c.args.self.now.held ≡ c.self.inside.pipe.items = sym (ap (λ (w : WalkerState). w.held) c.self.view_is) in
    c.look.ensures c.args.self.now.held (record {
      front = front_copied c.copy_front-len.new.head c.self.inside.pipe.items c.copy_front-len.result c.copy_front-len.ensures.count c.copy_front-len.ensures.copied ∙ ap (λ l. take 20 l) (sym held);
      size = c.len.ensures.len ∙ ap length (sym held);
    })
