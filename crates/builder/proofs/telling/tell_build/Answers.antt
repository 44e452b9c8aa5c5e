use Rattle.std.proofs.Common.{◌∙◌, subst, sym}
use Rattle.builder.specs.Faults.{HasNoNumber}
use Rattle.builder.specs.Telling.{CanBeTold}
use Rattle.builder.proofs.Failing.{order_quiet, quiet_memory, quiet_ok, quiet_refused}
use Rattle.builder.proofs.Refusing.{memory_told}
use Rattle.builder.proofs.telling.tell_build.Goals as goal

pub returns-in_err-tell_root-in-Ok : goal.returns-in_err-tell_root-in-Ok
returns-in_err-tell_root-in-Ok g c = record {
  told = record {
    came = memory_told _ _ _ _ _ _ c.build_plan.result c.build_plan.ensures.build.came (subst CanBeTold (sym c.in-Ok.is) tt) _ c.from_residual.ensures.1;
    order = order_quiet _ c.build_plan.ensures.build.order (quiet_ok _ _ c.in-Ok.is) (quiet_memory _ c.from_residual.ensures.1);
  };
  no_more = c.build_plan.ensures.no_more;
}

pub returns-in-Ok : goal.returns-in-Ok
returns-in-Ok g c = record {
  told = record {
    came = record { came = c.build_plan.result; builds = c.build_plan.ensures.build.came; tells = rw c.in-Ok.is c.in_ok-tell_root-in-Ok.ensures };
    order = order_quiet _ c.build_plan.ensures.build.order (quiet_ok _ _ c.in-Ok.is) (λ F memory refused f. f);
  };
  no_more = c.build_plan.ensures.no_more;
}

pub returns-in_err-line : goal.returns-in_err-line
returns-in_err-line g c = record {
  told = record {
    came = memory_told _ _ _ _ _ _ c.build_plan.result c.build_plan.ensures.build.came (subst CanBeTold (sym c.in-Err.is) (λ h. subst HasNoNumber (sym c.fault_of.ensures ∙ c.in-Refused.is) h)) _ c.from_residual-in_err-line.ensures.1;
    order = order_quiet _ c.build_plan.ensures.build.order (quiet_refused _ _ _ _ c.in-Err.is (sym c.fault_of.ensures ∙ c.in-Refused.is)) (quiet_memory _ c.from_residual-in_err-line.ensures.1);
  };
  no_more = c.build_plan.ensures.no_more;
}

pub returns-in_err-why : goal.returns-in_err-why
returns-in_err-why g c = record {
  told = record {
    came = memory_told _ _ _ _ _ _ c.build_plan.result c.build_plan.ensures.build.came (subst CanBeTold (sym c.in-Err.is) (λ h. subst HasNoNumber (sym c.fault_of.ensures ∙ c.in-Refused.is) h)) _ c.from_residual-in_err-why.ensures.1;
    order = order_quiet _ c.build_plan.ensures.build.order (quiet_refused _ _ _ _ c.in-Err.is (sym c.fault_of.ensures ∙ c.in-Refused.is)) (quiet_memory _ c.from_residual-in_err-why.ensures.1);
  };
  no_more = c.build_plan.ensures.no_more;
}

pub returns : goal.returns
returns g c = record {
  told = record {
    came = record {
      came = c.build_plan.result;
      builds = c.build_plan.ensures.build.came;
      tells = rw c.in-Err.is (record {
        place = c.in-Refused.place;
        number = c.in-Refused.number;
        numbered = sym c.fault_of.ensures ∙ c.in-Refused.is;
        line_is = c.in_ok-line.ensures;
        why_is = c.in_ok-why.ensures;
      });
    };
    order = order_quiet _ c.build_plan.ensures.build.order (quiet_refused _ _ _ _ c.in-Err.is (sym c.fault_of.ensures ∙ c.in-Refused.is)) (λ F memory refused f. f);
  };
  no_more = c.build_plan.ensures.no_more;
}
