mod Unshut
