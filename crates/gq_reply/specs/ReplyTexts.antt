-- The text of a reply to a query, and of its plans (this project's profile).
use Rattle.std.specs.Prelude.{◌≡◌, ℕ, Option, List, [], ◌∷◌, map, codes, ◌+◌, ◌++◌, decimal, if◌then◌else◌}
use Rattle.std.specs.List.{AllZip}
use Rattle.gq_base.specs.Catalogs.{Tables}
use Rattle.gq_base.specs.Plain.{Graph}
use Rattle.gq_base.specs.Values.{Val}
use Rattle.gq_execute.specs.Replies.{Reply, Rows, Faulted, TooManyRows}
use Rattle.gq_execute.specs.Planned.{ArePlansIn}
use Rattle.gq_order.specs.Named.{has_costs}
use Rattle.gq_order.specs.declared.named.Order.{Order}
use Rattle.gq_plan.specs.Columns.{columns_of}
use Rattle.gq_explain.specs.Costs.{costs_text}
use Rattle.gq_explain.specs.Plans.{plan_text}
use Rattle.gq_expr.specs.FaultNames.{fault_name}
use Rattle.gq_expr.specs.declared.Fault.{Fault}
use Rattle.gq_plan.specs.Covers.{Covers}
use Rattle.gq_plan.specs.Plans.{plan_of}
use Rattle.gq_plan.specs.declared.Bound.{Bound}
use Rattle.gq_plan.specs.declared.Plan as code_plan
use Rattle.gq_plan.specs.declared.typed.Typed.{Typed}
use Rattle.gq_render.specs.Listings.{ends_text, listing_text}
use Rattle.gq_render.specs.Texts.{line}
use Rattle.gq_homes.specs.declared.spent.Spent.{Spent}
use Rattle.gq_reply.specs.Arrows.{trail_arrows}
use Rattle.gq_reply.specs.ErrorLines.{error_line}
use Rattle.gq_reply.specs.declared.replier.Extent.{Extent}
use Rattle.gq_reply.specs.declared.replier.Extent.TheVariants as extent
use Rattle.gq_ast.specs.declared.statement.Query.{Query}

-- the lines that say why there are no rows
abbrev pub fault_text : Fault → List ℕ
fault_text why = error_line (codes "Fault " ++ fault_name why)

abbrev pub many_text : ℕ → List ℕ
many_text most = error_line (codes "TooManyRows " ++ decimal most)

-- rows in full: a header, a line for each and their number; or in short: the first, the last and their number
abbrev pub rows_text : Extent → Graph → Bound → List (List Val) → List ℕ
rows_text extent.Full graph bound lines = listing_text (map (λ c. c.name) bound.columns) graph lines
rows_text extent.Short graph bound lines = ends_text graph lines

-- the rows, or one line that says why there are none
abbrev pub reply_text : Extent → ℕ → Graph → Bound → Reply → List ℕ
reply_text f most graph bound (Rows lines) = rows_text f graph bound lines
reply_text f most graph bound (Faulted why) = fault_text why
reply_text f most graph bound TooManyRows = many_text most

-- the line of a pipeline that ran: its number, how many chunks it handed out, and how many columns it held
abbrev pub spent_line : ℕ → Spent → List ℕ
spent_line number s =
    line (codes "pipeline " ++ decimal number ++ codes " chunks " ++ decimal s.chunks ++ codes " columns " ++ decimal s.columns)

-- the lines of pipelines, numbered from here on
abbrev pub spent_text : ℕ → List Spent → List ℕ
spent_text number [] = []
spent_text number (s ∷ ss) = spent_line number s ++ spent_text (number + 1) ss

-- how many columns the pipeline of each plan fills
abbrev pub columns_each : List Typed → List code_plan.Plan → List ℕ
columns_each [] ps = []
columns_each (y ∷ ys) [] = []
columns_each (y ∷ ys) (p ∷ ps) = columns_of y (plan_of p) ∷ columns_each ys ps

-- in an order that states costs a line for each plan, with the costs of its components
abbrev pub costs_shown : Order → List (List (Option ℕ)) → List ℕ
costs_shown order costs = if has_costs order then costs_text costs else []

-- plans, the trails of a query, and what the plans cost
abbrev pub plans_text : Order → Query → Bound → Tables → List code_plan.Plan → List ℕ → List (List (Option ℕ)) → List ℕ
plans_text order query bound catalog plans columns costs =
    plan_text bound catalog plans columns (trail_arrows query.clauses) ++ costs_shown order costs

-- the text of a query's plans in an order, by the sizes of the graph's tables; each covers its alternative
pub record IsPlanText (order : Order) (graph : Graph) (query : Query) (bound : Bound) (text : List ℕ) : Type 0 where
  pub plans : List code_plan.Plan
  pub costs : List (List (Option ℕ))
  pub are : ArePlansIn order graph bound.alternatives (map plan_of plans) costs
  pub covers : AllZip (Covers graph.catalog) bound.alternatives (map plan_of plans)
  pub is : text ≡ plans_text order query bound graph.catalog plans (columns_each bound.alternatives plans) costs
