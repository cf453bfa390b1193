-- Who may send commands. (Redis, AUTH.)
use Rattle.std.specs.Prelude.{ℕ, Bool, true, false, ◌&&◌, List, codes, bytes_eq, Option, Some, None}
use Rattle.xs_connection.specs.declared.command.Login.{Login}

-- `default` is the only user; a login without a user means this one
abbrev pub is_default : Option (List ℕ) → Bool
is_default None = true
is_default (Some user) = bytes_eq user (codes "default")

-- any password is right if none is required
abbrev pub is_wanted : Option (List ℕ) → List ℕ → Bool
is_wanted None given = true
is_wanted (Some wanted) given = bytes_eq wanted given

abbrev pub is_right : Option (List ℕ) → Login → Bool
is_right wanted login = is_default login.user && is_wanted wanted login.password

-- a password alone, if none is required
abbrev pub is_needless : Option (List ℕ) → Option (List ℕ) → Bool
is_needless None None = true
is_needless _ _ = false
