-- A cookie whose texts are borrowed, as private contracts see it.
use Rattle.cookie_jar.specs.declared.cookie.BorrowedCookie.{BorrowedCookie}
use Rattle.cookie_jar.specs.Cookie.{PlainCookie}

-- the plain cookie
abbrev pub plain_borrowed : BorrowedCookie → PlainCookie
plain_borrowed c =
    record {
      name = c.name.now;
      value = c.value.now;
      domain = c.domain.now;
      path = c.path.now;
      host_only = c.host_only;
      secure = c.secure;
      http_only = c.http_only;
      same_site = c.same_site;
      creation = c.creation;
      expiry = c.expiry;
      last = c.last;
    }
