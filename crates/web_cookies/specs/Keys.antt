-- The cells that a use has.
-- Source: none; a container of our own.
use Rattle.std.specs.Prelude.{Option, option_map}
use Rattle.cookie_jar.specs.Key.{PlainKey, plain_key}
use Rattle.web_cookies.specs.declared.keys.UseKeys.{UseKeys}

-- the unpartitioned cell, if there is one
abbrev pub own_of : UseKeys → Option PlainKey
own_of keys = option_map plain_key keys.own

-- the partitioned cell
abbrev pub partition_of : UseKeys → PlainKey
partition_of keys = plain_key keys.partition
