-- Patterns are the same where all their lists are.
use Rattle.std.proofs.Common.{◌≡◌, ◌∙◌, ap}
use Rattle.gq_scopes.specs.Patterns.{Pattern}

pub same : (l m : Pattern) → l.names ≡ m.names → l.named ≡ m.named → l.node_names ≡ m.node_names → l.rel_names ≡ m.rel_names → l.unnamed ≡ m.unnamed
    → l.nodes ≡ m.nodes → l.rels ≡ m.rels → l.paths ≡ m.paths → l.entries ≡ m.entries → l ≡ m
same l m a b c d e f g h i =
    ap (λ x. record l { names = x }) a
    ∙ ap (λ x. record l { names = m.names; named = x }) b
    ∙ ap (λ x. record l { names = m.names; named = m.named; node_names = x }) c
    ∙ ap (λ x. record l { names = m.names; named = m.named; node_names = m.node_names; rel_names = x }) d
    ∙ ap (λ x. record l { names = m.names; named = m.named; node_names = m.node_names; rel_names = m.rel_names; unnamed = x }) e
    ∙ ap (λ x. record l { names = m.names; named = m.named; node_names = m.node_names; rel_names = m.rel_names; unnamed = m.unnamed; nodes = x }) f
    ∙ ap (λ x. record l { names = m.names; named = m.named; node_names = m.node_names; rel_names = m.rel_names; unnamed = m.unnamed; nodes = m.nodes; rels = x }) g
    ∙ ap (λ x. record l { names = m.names; named = m.named; node_names = m.node_names; rel_names = m.rel_names; unnamed = m.unnamed; nodes = m.nodes; rels = m.rels; paths = x }) h
    ∙ ap (λ x. record l { names = m.names; named = m.named; node_names = m.node_names; rel_names = m.rel_names; unnamed = m.unnamed; nodes = m.nodes; rels = m.rels; paths = m.paths; entries = x }) i
