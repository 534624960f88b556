-- A packet that is cut is one that a reader takes.
use Rattle.std.proofs.Common.{ℕ, sym, subst}
use Rattle.dcp_pft.specs.declared.shape.Shape.{Shape}
use Rattle.dcp_pft.specs.Cutting.{IsShapeOf}
use Rattle.dcp_pft.specs.Laws.{AllTaken, IsTaken}

pub taken : AllTaken → (len : ℕ) (shape : Shape) → IsShapeOf len shape → IsTaken shape
taken all len shape x = subst IsTaken (sym x.is) (all len x.m x.mtu x.some x.small x.few x.least x.most)
