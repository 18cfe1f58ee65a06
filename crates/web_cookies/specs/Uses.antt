-- Uses of cookies as contracts see them.
-- Source: none; it says how contracts see a type of this crate.
use Rattle.origin_site.specs.Plain.{plain_address, plain_site}
use Rattle.storage_key.specs.Plain.{plain_context}
use Rattle.agent_model.specs.CookieUse.{CookieUse}
use Rattle.web_cookies.specs.declared.cookie_use.CookieUse.{CookieUse as BorrowedUse}

-- a use
abbrev pub plain_use : BorrowedUse → CookieUse
plain_use how =
    record {
      url = plain_address how.url.now;
      top = plain_site how.top.now;
      context = plain_context how.context;
      same_site = how.same_site;
      top_load = how.top_load;
      safe = how.safe;
      script = how.script;
      granted = how.granted;
    }
