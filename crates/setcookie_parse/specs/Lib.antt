pub mod SetCookie
pub mod CookieDate
pub mod Plain
-- What private functions compute. No public clause rests on it.
pub mod DateParts
pub mod AttributesSoFar
