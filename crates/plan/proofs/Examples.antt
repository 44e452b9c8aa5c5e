-- What meets the premises of the laws: a plan of version 2 whose lines meet, its record, and the first faults of no text.
use Rattle.std.proofs.Common.{[], ◌∷◌, refl, inl, lit≤}
use Rattle.std.specs.Prelude.{codes}
use Rattle.std.specs.Str.{is_utf8, chars}
use Rattle.messages.specs.Name.{IsName}
use Rattle.messages.proofs.Names.{IsName-from}
use Rattle.messages.proofs.Paths.{one_name}
use Rattle.plan.specs.declared.error.Fault.TheVariants.{BadHeader}
use Rattle.plan.specs.declared.error.PlanError.{PlanError}
use Rattle.plan.specs.declared.version.Version.{Version}
use Rattle.plan.specs.declared.version.Version.TheVariants.{One, Two}
use Rattle.plan.specs.Faults.{IsPlanFault}
use Rattle.plan.specs.Line.{Begins}
use Rattle.plan.specs.Plan.{IsPlan, plan_header}
use Rattle.plan.specs.Record.{RecordValue, IsRecord, IsRecordFault, record_header}
use Rattle.plan.specs.Values.{LineValue, IsLine, PlanValue, source}

a_name : IsName (codes "a")
unfolding is_utf8 chars lib.Utf8.encode
a_name = IsName-from (codes "a") refl

-- `in a src .`
line : LineValue
line = record { target = codes "a" ∷ []; origin = source [] }

line_valid : IsLine 0 line
unfolding line
line_valid = record { target = one_name (codes "a") a_name; origin = inl refl }

pub meeting : PlanValue
meeting = record { version = Two; steps = []; root_lines = line ∷ line ∷ [] }

pub meeting_valid : IsPlan meeting
unfolding meeting
meeting_valid = record {
  few = lit≤ tt;
  steps = tt;
  root_lines = record { few = lit≤ tt; each = (line_valid, (line_valid, tt)) };
  apart = tt;
  root_apart = λ e. absurd cc;
}

pub header_missing : PlanError
header_missing = record { line = 1; fault = BadHeader }

pub no_plan : IsPlanFault [] header_missing
unfolding header_missing
no_plan = inl (refl, none)
  where
    none : (version : Version) → ¬ Begins (plan_header version) []
    none One (rest, e) = cc
    none Two (rest, e) = cc

-- that of a plan without steps
pub no_entries : RecordValue
no_entries = record { names = []; digests = [] }

pub no_entries_valid : IsRecord no_entries
unfolding no_entries
no_entries_valid = record { named = tt; valid = tt; same_length = refl }

pub no_record : IsRecordFault [] [] header_missing
unfolding header_missing
no_record = inl (refl, none)
  where
    none : ¬ Begins record_header []
    none (rest, e) = cc
