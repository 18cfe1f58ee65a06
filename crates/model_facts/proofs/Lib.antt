-- Values worked out by hand.
mod Names
mod QueueFacts
mod SiteStepFacts
mod ChainFacts
mod CookieFacts
mod BatchFacts
mod PrintedFacts
mod StoredFacts
mod ListFacts
