-- The public types as contracts see them: each text as the list of its bytes.
use Rattle.std.specs.Prelude.{option_copied}
use Rattle.setcookie_parse.specs.declared.cookie.CookieText.{CookieText as BorrowedCookie}
use Rattle.setcookie_parse.specs.declared.cookie.Parsed.{Parsed as BorrowedParsed}
use Rattle.setcookie_parse.specs.declared.cookie.Parsed.TheVariants.{Kept as KeptCookie}
use Rattle.setcookie_parse.specs.declared.cookie.Parsed.TheVariants.{Dropped as DroppedText}
use Rattle.setcookie_parse.specs.SetCookie.{CookieText, Parsed, Kept, Dropped}

-- a cookie
abbrev pub plain_text : BorrowedCookie → CookieText
plain_text cookie =
    record {
      name = cookie.name.now;
      value = cookie.value.now;
      domain = option_copied cookie.domain;
      path = option_copied cookie.path;
      has_path = cookie.has_path;
      secure = cookie.secure;
      http_only = cookie.http_only;
      partitioned = cookie.partitioned;
      same_site = cookie.same_site;
      expiry = cookie.expiry;
    }

-- an answer
abbrev pub plain_parsed : BorrowedParsed → Parsed
plain_parsed (KeptCookie cookie) = Kept (plain_text cookie)
plain_parsed (DroppedText cause) = Dropped cause
