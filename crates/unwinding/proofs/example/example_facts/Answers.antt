use Rattle.unwinding.proofs.ExampleFacts.{unshared_facts, restart_facts, durable_facts}
use Rattle.unwinding.proofs.example.example_facts.Goals as goal

pub returns : goal.returns
returns c = record { plain = unshared_facts; restart = restart_facts; durable = durable_facts }
