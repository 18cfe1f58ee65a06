mod CallLemmas
mod CarriedLemmas
