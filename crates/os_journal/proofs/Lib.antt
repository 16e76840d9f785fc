mod Volumes
