-- The questions that are asked of the sample graph (this project's sample).
use Rattle.std.specs.Prelude.{ℕ, List, [], ◌∷◌, codes}

-- the six questions, in their order
abbrev pub questions : List (List ℕ)
questions =
    codes "MATCH (p:Person) WHERE p.age > 10 RETURN p.id ORDER BY p.id"
    ∷ codes "MATCH (a:Person)-[r:KNOWS]->(b) WHERE r.since IS NOT NULL RETURN a.id, b.id, r.since ORDER BY a.id, b.id, r.since"
    ∷ codes "MATCH (p:Person)-[:LIVES_IN]->(c:City) WHERE c.pop >= 1000 RETURN c.code, p.id ORDER BY p.id"
    ∷ codes "MATCH (a:Person)-[:KNOWS]->(b)-[:KNOWS]->(c) WHERE a.id <= 100 RETURN a.id, b.id, c.id ORDER BY a.id, b.id, c.id"
    ∷ codes "MATCH (a)-[:LIVES_IN]->(c), (b)-[:LIVES_IN]->(c) WHERE a.id <= 10 RETURN a.id, b.id ORDER BY a.id, b.id"
    ∷ codes "MATCH (p:Person) RETURN DISTINCT p.name ORDER BY p.name LIMIT 5"
    ∷ []
