-- What is asked of the kinds of values that expressions may have.
use Rattle.std.specs.Prelude.{◌||◌, ◌&&◌}
use Rattle.std.specs.List.{list_all}
use Rattle.gq_expr.specs.Kinds.{is_boolean, is_relationship, May}
use Rattle.gq_expr.specs.declared.kinds.Summary.{Summary}

-- what is asked of the kinds
abbrev pub summary_of : May → Summary
summary_of m = record { faults = m.faults; boolean = list_all is_boolean m.kinds; relationship = list_all is_relationship m.kinds }

-- the same of two expressions, of which the value may be that of either
abbrev pub both : Summary → Summary → Summary
both a b = record { faults = a.faults || b.faults; boolean = a.boolean && b.boolean; relationship = a.relationship && b.relationship }
