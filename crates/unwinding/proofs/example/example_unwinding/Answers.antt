use Rattle.unwinding.proofs.ExampleFacts.{unwound_of}
use Rattle.unwinding.proofs.example.example_unwinding.Goals as goal

pub returns : goal.returns
returns c =
    record {
      unwound = unwound_of c.unwinding.ensures.unwound c.example_facts.ensures.restart;
    }
