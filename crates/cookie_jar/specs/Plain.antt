-- The public types as contracts see them.
use Rattle.std.specs.Prelude.{string_bytes}
use Rattle.std.specs.Rc.{rc_value}
use Rattle.cookie_jar.specs.declared.cookie.Cookie.{Cookie}
use Rattle.cookie_jar.specs.declared.access.Access.{Access}
use Rattle.cookie_jar.specs.Cookie.{PlainCookie}
use Rattle.cookie_jar.specs.Access.{PlainAccess}

-- a cookie
abbrev pub plain_cookie : Cookie → PlainCookie
plain_cookie c =
    record {
      name = string_bytes (rc_value c.identity).name;
      value = string_bytes (rc_value c.value);
      domain = string_bytes (rc_value c.identity).domain;
      path = string_bytes (rc_value c.identity).path;
      host_only = c.host_only;
      secure = c.secure;
      http_only = c.http_only;
      same_site = c.same_site;
      creation = c.creation;
      expiry = c.expiry;
      last = c.last;
    }

-- who stores or reads
abbrev pub plain_access : Access → PlainAccess
plain_access a =
    record {
      https = a.https;
      host = a.host.now;
      ip = a.ip;
      path = a.path.now;
      first = a.first;
      same_site = a.same_site;
      top_load = a.top_load;
      safe = a.safe;
      script = a.script;
      granted = a.granted;
    }
