-- The lines of `capacity`.
use Rattle.std.specs.Prelude.{ℕ, ◌+◌, ◌==◌, Bool, List, [], ◌∷◌, ◌++◌, length, codes, decimal, if◌then◌else◌}
use Rattle.std.specs.List.{concat, flat_map}
use Rattle.drm_schedule.specs.declared.config.Config.{Config}
use Rattle.drm_schedule.specs.declared.plan.Plan.{Plan}
use Rattle.drm_channel.specs.declared.usage.Usage.{Usage}
use Rattle.drm_channel.specs.Usage.{rate, is_part_a_over, is_part_b_over, is_sdc_over, is_sdc_short, fits}
use Rattle.cmd_capacity.specs.Asked.{used_by}
use Rattle.cmd_capacity.specs.Pieces.{number_or_dash}

-- what there is, and what is used of it
abbrev pub usage_line : ℕ → Usage → List ℕ
usage_line start u = concat (
    codes "config " ∷ decimal start ∷ codes " cells " ∷ decimal u.cells
    ∷ codes " part-a " ∷ decimal u.part_a ∷ codes " cells " ∷ number_or_dash u.part_a_cells
    ∷ codes " part-b " ∷ decimal u.part_b ∷ codes " of " ∷ number_or_dash u.part_b_room
    ∷ codes " sdc " ∷ decimal u.sdc ∷ codes " of " ∷ decimal u.sdc_room
    ∷ codes " rate " ∷ decimal (rate u) ∷ codes "\n" ∷ []
    )

-- `over START WHAT` or `short START WHAT`
abbrev pub unfit_line : List ℕ → ℕ → List ℕ → List ℕ
unfit_line how start what = concat (how ∷ codes " " ∷ decimal start ∷ codes " " ∷ what ∷ codes "\n" ∷ [])

-- this line where this holds
abbrev pub unfit_line_if : Bool → List ℕ → ℕ → List ℕ → List ℕ
unfit_line_if holds how start what = if holds then unfit_line how start what else []

-- a line for each thing that doesn't fit
abbrev pub unfit_lines : ℕ → Usage → List ℕ
unfit_lines start u =
    unfit_line_if (is_part_a_over u) (codes "over") start (codes "part-a")
    ++ (unfit_line_if (is_part_b_over u) (codes "over") start (codes "part-b")
    ++ (unfit_line_if (is_sdc_over u) (codes "over") start (codes "sdc")
    ++ unfit_line_if (is_sdc_short u) (codes "short") start (codes "sdc")))

-- the lines of a configuration, by its start
abbrev pub config_lines : Config → List ℕ
config_lines c = usage_line c.start (used_by c) ++ unfit_lines c.start (used_by c)

abbrev pub end_line : ℕ → ℕ → List ℕ
end_line configs unfit = concat (codes "end configs " ∷ decimal configs ∷ codes " unfit " ∷ decimal unfit ∷ codes "\n" ∷ [])

-- how many of these don't fit
abbrev pub unfit_count : List Config → ℕ
unfit_count [] = 0
unfit_count (c ∷ more) = (if fits (used_by c) then 0 else 1) + unfit_count more

-- all lines of a schedule
abbrev pub report : Plan → List ℕ
report plan = flat_map config_lines plan.configs ++ end_line (length plan.configs) (unfit_count plan.configs)

-- each configuration fits
abbrev pub all_fit : Plan → Bool
all_fit plan = unfit_count plan.configs == 0
