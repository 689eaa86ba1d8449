-- Names of network devices, as the Linux kernel takes them (dev_valid_name in net/core/dev.c), and names of the
-- parts of a bundle, which are names of files (docs/FORMATS.md).
use Rattle.std.specs.Prelude.{ℕ, ◌==◌, ◌||◌, ◌&&◌, not, nat_le, Bool, List, length}
use Rattle.std.specs.Char.{is_ascii_alphanumeric}
use Rattle.std.specs.List.{list_all}

-- ---- a network device

-- whether a device's name may have the byte: not 0x09 to 0x0D (tab, line feed and the like), space,
-- `/` or `:`
abbrev pub is_device_name_byte : ℕ → Bool
is_device_name_byte byte =
    not ((nat_le 9 byte && nat_le byte 13) || ((byte == 32) || ((byte == 47) || (byte == 58))))

-- 1 to 15 bytes (IFNAMSIZ of include/uapi/linux/if.h), each one that a name may have; the kernel
-- also refuses the names `.` and `..`, and the byte 0xA0
abbrev pub is_device_name : List ℕ → Bool
is_device_name name =
    (nat_le 1 (length name) && nat_le (length name) 15) && list_all is_device_name_byte name

-- ---- a part

-- whether a part's name may have the byte: ASCII letters, digits, `-`, `_`, `.` and `/`
abbrev pub is_part_byte : ℕ → Bool
is_part_byte byte = is_ascii_alphanumeric byte || (byte == 45) || (byte == 95) || (byte == 46) || (byte == 47)
