use Rattle.gq_rows.proofs.table.RowTable.start_alternative.Goals as goal

pub invariant_of-self : goal.invariant_of-self
invariant_of-self c =
    let i = c.self.invariant in
    record {
      sink = c.start_alternative.ensures.sink c.self.inside.graph.now c.self.inside.bound.now i.sink;
      small = i.small;
      sure = i.sure;
      ready = c.start_alternative-2.ensures c.self.inside.graph.now c.self.inside.bound.now i.ready;
      first = λ sort at. tt;
    }
