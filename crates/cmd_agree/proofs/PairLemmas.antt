-- Two schedules from a shelf, one after the other.
use Rattle.std.proofs.Common.{ℕ, List, Ok, Err}
use Rattle.drm_schedule.specs.declared.plan.Plan.{Plan}
use Rattle.drm_links.specs.Known.{Known}
use Rattle.drm_links.specs.Shelf.{Files}
use Rattle.cmd_load.specs.declared.loading.ScheduleFault.{ScheduleFault}
use Rattle.cmd_load.specs.declared.loading.ScheduleFault.TheVariants.{NoMemory}
use Rattle.cmd_load.specs.Loading.{ShelfReading, given, ◌>>=◌, ReadBy}
use Rattle.cmd_load.specs.Schedule.{schedule_named}
use Rattle.cmd_load.proofs.LoadingLemmas.{LoadsOnly, given_only, then_only, ReadBy-then, ReadBy-stops, ReadBy-given, ran_out}
use Rattle.cmd_load.proofs.ScheduleLemmas.{schedule_only}
use Rattle.cmd_agree.specs.declared.pair.SchedulePair.{SchedulePair}
use Rattle.cmd_agree.specs.Reading.{both_named}

abbrev pair_of : Plan → Plan → SchedulePair
pair_of first second = record { first = first; second = second }

abbrev paired : Plan → Plan → ShelfReading SchedulePair
paired first second = given (Ok (pair_of first second))

-- what is read behind the first
abbrev behind : List ℕ → Plan → ShelfReading SchedulePair
behind other first = schedule_named other >>= paired first

behind_only : (other : List ℕ) (first : Plan) → LoadsOnly (behind other first)
behind_only other first = then_only (schedule_named other) (paired first) (schedule_only other) (λ second. given_only (Ok (pair_of first second)))

both_only : (name other : List ℕ) → LoadsOnly (both_named name other)
both_only name other = then_only (schedule_named name) (behind other) (schedule_only name) (behind_only other)

module _ (name other : List ℕ) where
  -- the first one doesn't come
  pub first_fails : (fault : ScheduleFault) (a b : Known Files) → ReadBy (schedule_named name) (Err fault) a b → ReadBy (both_named name other) (Err fault) a b
  first_fails fault a b fails = ReadBy-stops (schedule_named name) (behind other) fault a b (behind_only other) fails

  -- the second one doesn't
  pub second_fails : (first : Plan) (fault : ScheduleFault) (a b c : Known Files) → ReadBy (schedule_named name) (Ok first) a b → ReadBy (schedule_named other) (Err fault) b c
      → ReadBy (both_named name other) (Err fault) a c
  second_fails first fault a b c comes fails =
      ReadBy-then (schedule_named name) (behind other) first (Err fault) a b c (schedule_only name) comes
      (ReadBy-stops (schedule_named other) (paired first) fault b c (λ second. given_only (Ok (pair_of first second))) fails)

  -- both come
  pub both_come : (first second : Plan) (a b c : Known Files) → ReadBy (schedule_named name) (Ok first) a b → ReadBy (schedule_named other) (Ok second) b c
      → ReadBy (both_named name other) (Ok (record { first = first; second = second })) a c
  both_come first second a b c comes also =
      ReadBy-then (schedule_named name) (behind other) first (Ok (pair_of first second)) a b c (schedule_only name) comes
      (ReadBy-then (schedule_named other) (paired first) second (Ok (pair_of first second)) b c c (schedule_only other) also (ReadBy-given (Ok (pair_of first second)) c))

  -- memory runs out behind them
  pub pair_ran_out : (pair : SchedulePair) (a b : Known Files) → ReadBy (both_named name other) (Ok pair) a b → ReadBy (both_named name other) (Err NoMemory) a b
  pair_ran_out pair a b comes = ran_out (both_named name other) pair a b (both_only name other) comes
