use Rattle.std.proofs.Common.{◌*◌, ◌≤◌, sym, subst, ◌∙◌, arith}
use Rattle.dcp_pft.specs.declared.shape.Shape.{Shape}
use Rattle.dcp_pft.specs.Limits.{most_fragments, most_carried, most_chunks}
use Rattle.dcp_pft.specs.Cutting.{coded_shape, plain_shape, chunks_of}
use Rattle.dcp_pft.proofs.Sizes.{fits_is, chunks_are, Coded, coded_is, coded_bytes, plain_is, plain_bytes, no_code, with_code}
use Rattle.dcp_pft.proofs.shape.shape_for.Goals as goal

pub returns-then-m-eq0-clause-shape : goal.returns-then-m-eq0-clause-shape
returns-then-m-eq0-clause-shape c = c.plain.ensures ∙ no_code c.args.len c.args.m c.args.mtu c.if-m-eq0.true

pub returns-then-m-eq0-clause-is : goal.returns-then-m-eq0-clause-is
returns-then-m-eq0-clause-is c = record {
  some = c.requires.at_least_one;
  small = c.requires.in_range;
  m = c.args.m;
  few = c.requires.within_limit;
  mtu = c.args.mtu;
  least = c.requires.least;
  most = c.requires.most;
  is = c.plain.ensures ∙ no_code c.args.len c.args.m c.args.mtu c.if-m-eq0.true;
}

pub returns-else-m-eq0-clause-shape : goal.returns-else-m-eq0-clause-shape
returns-else-m-eq0-clause-shape c = c.coded.ensures ∙ with_code c.args.len c.args.m c.args.mtu (omega arith)

pub returns-else-m-eq0-clause-is : goal.returns-else-m-eq0-clause-is
returns-else-m-eq0-clause-is c = record {
  some = c.requires.at_least_one;
  small = c.requires.in_range;
  m = c.args.m;
  few = c.requires.within_limit;
  mtu = c.args.mtu;
  least = c.requires.least;
  most = c.requires.most;
  is = c.coded.ensures ∙ with_code c.args.len c.args.m c.args.mtu (omega arith);
}

is_coded : (c : goal.After-coded) → Coded c.args.len c.args.m c.args.mtu
is_coded c = coded_is c.args.len c.args.m c.args.mtu (fits_is c.args.len c.args.m c.args.mtu c.requires.at_least_one c.requires.in_range c.requires.least) (omega arith) c.requires.within_limit

pub returns-else-m-eq0-clause-at_least_one : goal.returns-else-m-eq0-clause-at_least_one
returns-else-m-eq0-clause-at_least_one c = subst (λ (s : Shape). 1 ≤ s.count) (sym c.coded.ensures) (is_coded c).some

pub returns-else-m-eq0-clause-within_limit : goal.returns-else-m-eq0-clause-within_limit
returns-else-m-eq0-clause-within_limit c =
    let few : (coded_shape c.args.len c.args.m c.args.mtu).count ≤ most_fragments = omega (arith, (is_coded c).few) in
    subst (λ (s : Shape). s.count ≤ most_fragments) (sym c.coded.ensures) few

pub returns-else-m-eq0-clause-bytes : goal.returns-else-m-eq0-clause-bytes
returns-else-m-eq0-clause-bytes c =
    subst (λ (s : Shape). s.count * s.piece ≤ most_carried) (sym c.coded.ensures)
    (let fits = fits_is c.args.len c.args.m c.args.mtu c.requires.at_least_one c.requires.in_range c.requires.least in
    coded_bytes c.args.len c.args.m c.args.mtu fits.some fits.small (is_coded c))

pub returns-then-m-eq0-clause-bytes : goal.returns-then-m-eq0-clause-bytes
returns-then-m-eq0-clause-bytes c =
    subst (λ (s : Shape). s.count * s.piece ≤ most_carried) (sym c.plain.ensures)
    (let fits = fits_is c.args.len c.args.m c.args.mtu c.requires.at_least_one c.requires.in_range c.requires.least in
    plain_bytes c.args.len c.args.mtu fits.small (plain_is c.args.len c.args.mtu fits))

pub returns-then-m-eq0-clause-chunks : goal.returns-then-m-eq0-clause-chunks
returns-then-m-eq0-clause-chunks c =
    let none : chunks_of (plain_shape c.args.len c.args.mtu) ≤ most_chunks = omega arith in
    subst (λ (s : Shape). chunks_of s ≤ most_chunks) (sym c.plain.ensures) none

pub returns-else-m-eq0-clause-chunks : goal.returns-else-m-eq0-clause-chunks
returns-else-m-eq0-clause-chunks c =
    let few : chunks_of (coded_shape c.args.len c.args.m c.args.mtu) ≤ most_chunks =
    (let fits = fits_is c.args.len c.args.m c.args.mtu c.requires.at_least_one c.requires.in_range c.requires.least in
    omega (arith, (is_coded c).chunks, (chunks_are c.args.len fits.some fits.small).few)) in
    subst (λ (s : Shape). chunks_of s ≤ most_chunks) (sym c.coded.ensures) few
