-- Each configuration of a schedule has a channel.
use Rattle.std.proofs.Common.{◌≡◌, refl, ℕ, ◌<◌, ◌==◌, ◌||◌, ◌&&◌, not, inl, inr, Bool, true, false, List, [], ◌∷◌, All, Option, Some, arith}
use Rattle.std.proofs.lemmas.Bool.Decides.{nat_tests}
use Rattle.std.proofs.lemmas.List.Elements.{All-nil, All-cons, All-head, All-tail}
use Rattle.drm_fac.specs.declared.mode.Mode.{Mode}
use Rattle.drm_fac.specs.declared.mode.Mode.TheVariants.{A, B, C, D}
use Rattle.drm_schedule.specs.declared.config.Config.{Config}
use Rattle.drm_schedule.specs.declared.plan.Plan.{Plan}
use Rattle.drm_schedule.specs.Ranges.{ConfigInLines}
use Rattle.drm_schedule.specs.Valid.{is_narrow, AreFaultless}
use Rattle.drm_channel.specs.Codes.{IsWideCode, HasOccupancy, IsPlainCode}
use Rattle.cmd_capacity.specs.Asked.{HasChannel}

wide : (code : ℕ) → (not (code == 3) && not (code == 5)) ≡ false → IsWideCode code
wide code is = by (code == 3) (code == 5) refl refl is
  where
    by : (a b : Bool) → a ≡ (code == 3) → b ≡ (code == 5) → (not a && not b) ≡ false → IsWideCode code
    by true b first second so = inl (grind (arith, nat_tests))
    by false true first second so = inr (grind (arith, nat_tests))
    by false false first second so = cc

narrow : (mode : Mode) (code : ℕ) → code < 6 → (is_narrow mode && not (code == 3) && not (code == 5)) ≡ false → HasOccupancy mode code
narrow A code fits is = fits
narrow B code fits is = fits
narrow C code fits is = wide code is
narrow D code fits is = wide code is

plain : (code : ℕ) → code < 4 → (code == 1 || code == 2) ≡ false → IsPlainCode code
plain code fits is = by (code == 1) (code == 2) refl refl is
  where
    by : (a b : Bool) → a ≡ (code == 1) → b ≡ (code == 2) → (a || b) ≡ false → IsPlainCode code
    by true b first second so = cc
    by false true first second so = cc
    by false false first second so = zero_or (code == 0) refl
      where
        zero_or : (z : Bool) → z ≡ (code == 0) → IsPlainCode code
        zero_or true is = inl (grind (arith, nat_tests))
        zero_or false is = inr (grind (arith, nat_tests))

-- without a fault they have one
pub have_channels : (plan : Plan) (before : Option Config) (configs : List Config) → AreFaultless plan before configs → All ConfigInLines configs → All HasChannel configs
have_channels plan before [] faultless each = All-nil HasChannel
have_channels plan before (c ∷ more) (here, rest) each =
    let lines : ConfigInLines c = All-head ConfigInLines c more each in
    All-cons HasChannel c more (record {
      occupancy = narrow c.mode c.occupancy lines.occupancy_fits here.occupancy_fits;
      plain = plain c.msc lines.msc_fits here.not_hierarchical;
      prot_a_fits = lines.prot_a_fits;
      prot_b_fits = lines.prot_b_fits;
      few_streams = lines.few_streams;
      each_stream = lines.each_stream;
    }) (have_channels plan (Some c) more rest (All-tail ConfigInLines c more each))
